-- `checks::any_place_out` meets its contract: a hit ends the scan, a miss leaves the rest, and at the end nothing is left.
-- Assumes nothing.
use Rattle.std.proofs.Common.{◌∙◌, sym, ap, arith}
use Rattle.lists.proofs.AnyLaws.{any-hit, any-miss, any-end}
use Rattle.net.proofs.PinLaws.{pins-next, pins-end}
use Rattle.net.specs.Tests.{place_out}
use Rattle.checks.proofs.any_place_out.Goals as goal

pub returns-then-is_place_out : goal.returns-then-is_place_out
returns-then-is_place_out c =
    sym
    (c.loop-i.invariant
    ∙ any-hit place_out _ _ _ (pins-next c.args.pins.now c.loop-i.i (omega arith))
    (sym (c.is_place_out.ensures ∙ ap place_out c.pin_at.ensures) ∙ c.if-is_place_out.true))

pub loop-i-preserved : goal.loop-i-preserved
loop-i-preserved c =
    c.loop-i.invariant
    ∙ any-miss place_out _ _ _ (pins-next c.args.pins.now c.loop-i.i (omega arith))
    (sym (c.is_place_out.ensures ∙ ap place_out c.pin_at.ensures) ∙ c.if-is_place_out.false)

pub returns : goal.returns
returns c = sym (c.loop-i.invariant ∙ any-end place_out _ (pins-end c.args.pins.now c.loop-i.i (omega arith)))
