-- `router::lower_bound` meets its contract: the refusals of the check first, then what the lower bound of an allowed net says.
-- Assumes nothing.
use Rattle.std.proofs.Common.{◌≡◌, ◌∙◌, refl, sym, ap, length, [], arith}
use mathlib.Core.Path.{subst}
use Rattle.net.specs.declared.Weighing.{Weighing}
use Rattle.net.specs.Answer.{told_by}
use Rattle.checks.specs.Check.{checked}
use Rattle.checks.proofs.GivenLaws.{handed-back}
use Rattle.answers.proofs.AnswerLaws.{only-refused, only-given}
use Rattle.made.proofs.CountedLaws.{counted_of}
use Rattle.answers.specs.Bound.{bound_given, lower_bound}
use Rattle.router.specs.Call.{BoundCall}
use Rattle.router.proofs.CallLaws.{told-passed, bound-refused, bound-as}
use Rattle.router.proofs.lower_bound.Goals as goal

pub lower_bound-requires : goal.lower_bound-requires
unfolding told_by
lower_bound-requires c = counted_of _ _ _ (sym c.in_ok-net.ensures)

pub returns-in_err-net : goal.returns-in_err-net
unfolding lower_bound told_by
returns-in_err-net c =
    let a = c.args in
    bound-refused (told-passed _ _ _ c.from_residual.ensures.1)
    (only-refused (checked a.w a.pins.now a.macros.now)
    (bound_given a.w a.pins.now a.macros.now (length a.left.now) (length a.rows.now) 0) _ (sym c.in_err-net.ensures))

pub returns : goal.returns
unfolding lower_bound told_by
returns c =
    let a = c.args in
    let allowed = sym c.in_ok-net.ensures in
    bound-as
    (λ n. sym (only-given (checked a.w a.pins.now a.macros.now)
    (bound_given a.w a.pins.now a.macros.now (length a.left.now) (length a.rows.now) n) _ allowed))
    (subst (λ (z : Weighing). BoundCall bound_given z a.pins.now a.macros.now a.left.now a.rows.now c.lower_bound.result
    c.lower_bound.new.left c.lower_bound.new.rows) (handed-back _ _ _ allowed) c.lower_bound.ensures)
