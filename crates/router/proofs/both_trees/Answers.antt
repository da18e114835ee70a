-- `router::both_trees` meets its contract: the refusals of the check first, then what both trees of an allowed net say.
-- Assumes nothing.
use Rattle.std.proofs.Common.{◌≡◌, ◌∙◌, refl, sym, ap, length, [], arith}
use mathlib.Core.Path.{subst}
use Rattle.net.specs.declared.Weighing.{Weighing}
use Rattle.net.specs.Answer.{told_by}
use Rattle.checks.specs.Check.{checked}
use Rattle.checks.proofs.GivenLaws.{handed-back}
use Rattle.answers.proofs.AnswerLaws.{only-refused, only-given}
use Rattle.made.proofs.CountedLaws.{counted_of}
use Rattle.answers.specs.Both.{both_given, both_trees}
use Rattle.router.specs.Call.{BothCall}
use Rattle.router.proofs.CallLaws.{told-passed, gives-refused, gives_as}
use Rattle.router.proofs.both_trees.Goals as goal

pub both_trees-requires : goal.both_trees-requires
unfolding told_by
both_trees-requires c = counted_of _ _ _ (sym c.in_ok-net.ensures)

pub returns-in_err-net : goal.returns-in_err-net
unfolding both_trees told_by
returns-in_err-net c =
    let a = c.args in
    gives-refused (told-passed _ _ _ c.from_residual.ensures.1) (only-refused (checked a.w a.pins.now a.macros.now) (both_given a.w a.pins.now a.macros.now (length a.edges.now)) _ (sym c.in_err-net.ensures))

pub returns : goal.returns
unfolding both_trees told_by
returns c =
    let a = c.args in
    let allowed = sym c.in_ok-net.ensures in
    gives_as (sym (only-given (checked a.w a.pins.now a.macros.now) (both_given a.w a.pins.now a.macros.now (length a.edges.now)) _ allowed))
    (subst (λ (z : Weighing). BothCall both_given z a.pins.now a.macros.now a.edges.now c.both_trees.result c.both_trees.new.edges) (handed-back _ _ _ allowed) c.both_trees.ensures)
