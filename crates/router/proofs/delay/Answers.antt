-- `router::delay` meets its contract: the refusals of the check first, then what the delays of an allowed net say.
-- Assumes nothing.
use Rattle.std.proofs.Common.{◌≡◌, ◌∙◌, refl, sym, ap, length, [], arith}
use mathlib.Core.Path.{subst}
use Rattle.net.specs.declared.Weighing.{Weighing}
use Rattle.net.specs.Answer.{told_by}
use Rattle.checks.specs.Check.{checked}
use Rattle.checks.proofs.GivenLaws.{handed-back}
use Rattle.answers.proofs.AnswerLaws.{only-refused, only-given}
use Rattle.made.proofs.CountedLaws.{counted_of}
use Rattle.answers.specs.Delay.{delay_given, pin_delays}
use Rattle.router.specs.Call.{DelayCall}
use Rattle.router.proofs.CallLaws.{told-passed, gives-refused, gives_as}
use Rattle.router.proofs.delay.Goals as goal

pub delay-requires : goal.delay-requires
unfolding told_by
delay-requires c = counted_of _ _ _ (sym c.in_ok-net.ensures)

pub returns-in_err-net : goal.returns-in_err-net
unfolding pin_delays told_by
returns-in_err-net c =
    let a = c.args in
    gives-refused (told-passed _ _ _ c.from_residual.ensures.1) (only-refused (checked a.w a.pins.now a.macros.now) (delay_given a.w a.pins.now a.macros.now a.driver a.t (length a.delays.now)) _ (sym c.in_err-net.ensures))

pub returns : goal.returns
unfolding pin_delays told_by
returns c =
    let a = c.args in
    let allowed = sym c.in_ok-net.ensures in
    gives_as (sym (only-given (checked a.w a.pins.now a.macros.now) (delay_given a.w a.pins.now a.macros.now a.driver a.t (length a.delays.now)) _ allowed))
    (subst (λ (z : Weighing). DelayCall delay_given z a.pins.now a.macros.now a.driver a.t a.delays.now c.delay.result c.delay.new.delays) (handed-back _ _ _ allowed) c.delay.ensures)
