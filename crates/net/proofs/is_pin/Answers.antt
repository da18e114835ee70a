-- A pin at the place ends the scan, any other leaves the rest, and at the end no pin is left.
-- Assumes nothing.
use Rattle.std.proofs.Common.{◌∙◌, sym, ap, arith}
use Rattle.lists.proofs.AnyLaws.{any-hit, any-miss, any-end}
use Rattle.plane.specs.Place.{same_place}
use Rattle.net.proofs.PinLaws.{pins-next, pins-end}
use Rattle.net.proofs.is_pin.Goals as goal

pub returns-then-is_same_place : goal.returns-then-is_same_place
returns-then-is_same_place c =
    sym
    (c.loop-i.invariant
    ∙ any-hit (same_place c.args.p) _ _ _ (pins-next c.args.pins.now c.loop-i.i (omega arith))
    (sym (c.is_same_place.ensures ∙ ap (same_place c.args.p) c.pin_at.ensures) ∙ c.if-is_same_place.true))

pub loop-i-preserved : goal.loop-i-preserved
loop-i-preserved c =
    c.loop-i.invariant
    ∙ any-miss (same_place c.args.p) _ _ _ (pins-next c.args.pins.now c.loop-i.i (omega arith))
    (sym (c.is_same_place.ensures ∙ ap (same_place c.args.p) c.pin_at.ensures) ∙ c.if-is_same_place.false)

pub returns : goal.returns
returns c =
    sym (c.loop-i.invariant ∙ any-end (same_place c.args.p) _ (pins-end c.args.pins.now c.loop-i.i (omega arith)))
