-- `router::price` meets its contract: the refusals of the check first, then what the bands say of an allowed net's metal.
-- Assumes nothing.
use Rattle.std.proofs.Common.{◌≡◌, ◌∙◌, refl, sym, ap, length, [], arith}
use mathlib.Core.Path.{subst}
use Rattle.net.specs.declared.Weighing.{Weighing}
use Rattle.net.specs.Answer.{told_by}
use Rattle.checks.specs.Check.{checked}
use Rattle.checks.proofs.GivenLaws.{handed-back}
use Rattle.answers.proofs.AnswerLaws.{only-refused, only-given}
use Rattle.made.proofs.CountedLaws.{counted_of}
use Rattle.price.specs.Price.{priced}
use Rattle.answers.specs.Refined.{metal_of}
use Rattle.answers.specs.Price.{net_price}
use Rattle.router.proofs.CallLaws.{told-passed}
use Rattle.router.proofs.price.Goals as goal

pub price-requires : goal.price-requires
unfolding told_by
price-requires c = counted_of _ _ _ (sym c.in_ok-net.ensures)

pub returns-in_err-net : goal.returns-in_err-net
unfolding net_price told_by
returns-in_err-net c =
    let a = c.args in
    told-passed _ _ _ c.from_residual.ensures.1
    ∙ sym (only-refused (checked a.w a.pins.now a.macros.now) (priced (metal_of a.w a.pins.now a.macros.now) a.bands.now) _
    (sym c.in_err-net.ensures))

pub returns : goal.returns
unfolding net_price told_by
returns c =
    let a = c.args in
    let allowed = sym c.in_ok-net.ensures in
    c.price.ensures
    ∙ ap (λ (z : Weighing). priced (metal_of z a.pins.now a.macros.now) a.bands.now) (handed-back _ _ _ allowed)
    ∙ sym (only-given (checked a.w a.pins.now a.macros.now) (priced (metal_of a.w a.pins.now a.macros.now) a.bands.now) _ allowed)
