-- `checks::any_same_place` meets its contract: each pin is compared with those after it.
-- Assumes nothing.
use Rattle.std.proofs.Common.{◌≡◌, ◌∙◌, sym, ap, arith, ◌+◌, ℕ, drop}
use mathlib.Core.Bool.{Bool}
use mathlib.Core.List.{List}
use lib.IntN.{ℤ}
use Rattle.lists.specs.Any.{any}
use Rattle.lists.proofs.AnyLaws.{two-hit, two-miss, two-end}
use Rattle.plane.specs.declared.Place.{Place}
use Rattle.plane.specs.Place.{same_place}
use Rattle.net.specs.Pins.{pin_places}
use Rattle.net.proofs.PinLaws.{pins-next, pins-end}
use Rattle.checks.proofs.any_same_place.Goals as goal

-- what the search says of a pin, whose place is known
told : (pins : List ℤ) (i : ℕ) (p q : Place) (found : Bool) → found ≡ any (same_place p) (drop (i + 1) (pin_places pins)) → p ≡ q
    → found ≡ any (same_place q) (drop (i + 1) (pin_places pins))
told pins i p q found e at = e ∙ ap (λ (p : Place). any (same_place p) (drop (i + 1) (pin_places pins))) at

pub returns-then-is_among : goal.returns-then-is_among
returns-then-is_among c =
    let s = c.args.pins.now in
    sym
    (c.loop-i.invariant
    ∙ two-hit same_place _ _ _ (pins-next s c.loop-i.i (omega arith))
    (sym (told s c.loop-i.i _ _ _ c.is_among.ensures c.pin_at.ensures) ∙ c.if-is_among.true))

pub loop-i-preserved : goal.loop-i-preserved
loop-i-preserved c =
    let s = c.args.pins.now in
    c.loop-i.invariant
    ∙ two-miss same_place _ _ _ (pins-next s c.loop-i.i (omega arith))
    (sym (told s c.loop-i.i _ _ _ c.is_among.ensures c.pin_at.ensures) ∙ c.if-is_among.false)

pub returns : goal.returns
returns c = sym (c.loop-i.invariant ∙ two-end same_place _ (pins-end c.args.pins.now c.loop-i.i (omega arith)))
