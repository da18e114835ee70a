-- `checks::is_among` meets its contract: a hit ends the scan, a miss leaves the rest, and at the end nothing is left.
-- Assumes nothing.
use Rattle.std.proofs.Common.{◌∙◌, sym, ap, arith}
use Rattle.lists.proofs.AnyLaws.{any-hit, any-miss, any-end}
use Rattle.plane.specs.Place.{same_place}
use Rattle.net.proofs.PinLaws.{pins-next, pins-end}
use Rattle.checks.proofs.is_among.Goals as goal

pub returns-then-is_same_place : goal.returns-then-is_same_place
returns-then-is_same_place c =
    sym
    (c.loop-j.invariant
    ∙ any-hit (same_place c.args.p) _ _ _ (pins-next c.args.pins.now c.loop-j.j (omega arith))
    (sym (c.is_same_place.ensures ∙ ap (same_place c.args.p) c.pin_at.ensures) ∙ c.if-is_same_place.true))

pub loop-j-preserved : goal.loop-j-preserved
loop-j-preserved c =
    c.loop-j.invariant
    ∙ any-miss (same_place c.args.p) _ _ _ (pins-next c.args.pins.now c.loop-j.j (omega arith))
    (sym (c.is_same_place.ensures ∙ ap (same_place c.args.p) c.pin_at.ensures) ∙ c.if-is_same_place.false)

pub returns : goal.returns
returns c = sym (c.loop-j.invariant ∙ any-end (same_place c.args.p) _ (pins-end c.args.pins.now c.loop-j.j (omega arith)))
