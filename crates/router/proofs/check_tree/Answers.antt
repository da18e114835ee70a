-- `router::check_tree` meets its contract: the refusals of the check first, then the verdict on the edges for an allowed net.
-- Assumes nothing.
use Rattle.std.proofs.Common.{◌≡◌, ◌∙◌, refl, sym, ap, length, [], arith}
use mathlib.Core.Path.{subst}
use Rattle.net.specs.declared.Weighing.{Weighing}
use Rattle.net.specs.Answer.{told_by}
use Rattle.checks.specs.Check.{checked}
use Rattle.checks.proofs.GivenLaws.{handed-back}
use Rattle.answers.proofs.AnswerLaws.{only-refused, only-given}
use Rattle.made.proofs.CountedLaws.{counted_of}
use Rattle.net.specs.Net.{Net, net_of}
use Rattle.net.proofs.PinLaws.{length-pins}
use Rattle.bought.specs.Verdict.{bought}
use Rattle.made.proofs.CountedLaws.{as-net}
use Rattle.answers.specs.Bought.{checked_tree}
use Rattle.router.proofs.CallLaws.{told-passed}
use Rattle.router.proofs.check_tree.Goals as goal

pub check_tree-requires : goal.check_tree-requires
unfolding told_by
check_tree-requires c =
    omega (arith, (counted_of _ _ _ (sym c.in_ok-net.ensures)).allowed.few-pins, length-pins c.args.pins.now)

pub returns-in_err-net : goal.returns-in_err-net
unfolding checked_tree told_by
returns-in_err-net c =
    let a = c.args in
    told-passed _ _ _ c.from_residual.ensures.1
    ∙ sym (only-refused (checked a.w a.pins.now a.macros.now) (bought (net_of a.w a.pins.now a.macros.now) a.edges.now) _
    (sym c.in_err-net.ensures))

pub returns : goal.returns
unfolding checked_tree told_by
returns c =
    let a = c.args in
    let allowed = sym c.in_ok-net.ensures in
    c.check_tree.ensures
    ∙ ap (λ (net : Net). bought net a.edges.now) (as-net (counted_of _ _ _ allowed))
    ∙ ap (λ (z : Weighing). bought (net_of z a.pins.now a.macros.now) a.edges.now) (handed-back _ _ _ allowed)
    ∙ sym (only-given (checked a.w a.pins.now a.macros.now) (bought (net_of a.w a.pins.now a.macros.now) a.edges.now) _ allowed)
