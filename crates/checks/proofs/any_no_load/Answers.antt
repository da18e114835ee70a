-- `checks::any_no_load` meets its contract: a hit ends the scan, a miss leaves the rest, and at the end nothing is left.
-- Assumes nothing.
use Rattle.std.proofs.Common.{◌∙◌, sym, ap, arith, rules}
use mir.Syntax.{w32}
use mir.ValLaws.{to_z-of_z}
use Rattle.lists.proofs.AnyLaws.{any-hit, any-miss, any-end}
use Rattle.net.proofs.PinLaws.{loads-next, loads-end}
use Rattle.net.specs.Tests.{no_load}
use Rattle.checks.proofs.any_no_load.Goals as goal

pub returns-then-is_no_load : goal.returns-then-is_no_load
returns-then-is_no_load c =
    sym
    (c.loop-i.invariant
    ∙ any-hit no_load _ _ _ (loads-next c.args.pins.now c.loop-i.i (omega arith))
    (sym (c.is_no_load.ensures ∙ ap no_load (to_z-of_z w32 _ (search rules) ∙ c.load_at.ensures)) ∙ c.if-is_no_load.true))

pub loop-i-preserved : goal.loop-i-preserved
loop-i-preserved c =
    c.loop-i.invariant
    ∙ any-miss no_load _ _ _ (loads-next c.args.pins.now c.loop-i.i (omega arith))
    (sym (c.is_no_load.ensures ∙ ap no_load (to_z-of_z w32 _ (search rules) ∙ c.load_at.ensures)) ∙ c.if-is_no_load.false)

pub returns : goal.returns
returns c = sym (c.loop-i.invariant ∙ any-end no_load _ (loads-end c.args.pins.now c.loop-i.i (omega arith)))
