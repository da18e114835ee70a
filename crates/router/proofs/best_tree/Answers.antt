-- `router::best_tree` meets its contract: the refusals of the check first, then what the best tree of an allowed net says.
-- Assumes nothing.
use Rattle.std.proofs.Common.{◌≡◌, ◌∙◌, refl, sym, ap, length, [], arith}
use mathlib.Core.Path.{subst}
use Rattle.net.specs.declared.Weighing.{Weighing}
use Rattle.net.specs.Answer.{told_by}
use Rattle.checks.specs.Check.{checked}
use Rattle.checks.proofs.GivenLaws.{handed-back}
use Rattle.answers.proofs.AnswerLaws.{only-refused, only-given}
use Rattle.made.proofs.CountedLaws.{counted_of}
use Rattle.answers.specs.Best.{best_given, best_tree}
use Rattle.router.specs.Call.{BestCall}
use Rattle.router.proofs.CallLaws.{told-passed, best-refused, best-as}
use Rattle.router.proofs.best_tree.Goals as goal

pub best_tree-requires : goal.best_tree-requires
unfolding told_by
best_tree-requires c = counted_of _ _ _ (sym c.in_ok-net.ensures)

pub returns-in_err-net : goal.returns-in_err-net
unfolding best_tree told_by
returns-in_err-net c =
    let a = c.args in
    best-refused (told-passed _ _ _ c.from_residual.ensures.1)
    (only-refused (checked a.w a.pins.now a.macros.now)
    (best_given a.w a.pins.now a.macros.now (length a.work.now) (length a.edges.now) []) _ (sym c.in_err-net.ensures))

pub returns : goal.returns
unfolding best_tree told_by
returns c =
    let a = c.args in
    let allowed = sym c.in_ok-net.ensures in
    best-as
    (λ T. sym (only-given (checked a.w a.pins.now a.macros.now)
    (best_given a.w a.pins.now a.macros.now (length a.work.now) (length a.edges.now) T) _ allowed))
    (subst (λ (z : Weighing). BestCall best_given z a.pins.now a.macros.now a.work.now a.edges.now c.best_tree.result
    c.best_tree.new.work c.best_tree.new.edges) (handed-back _ _ _ allowed) c.best_tree.ensures)
