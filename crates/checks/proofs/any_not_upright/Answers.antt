-- `checks::any_not_upright` meets its contract: a hit ends the scan, a miss leaves the rest, and at the end nothing is left.
-- Assumes nothing.
use Rattle.std.proofs.Common.{◌∙◌, sym, ap, arith}
use Rattle.lists.proofs.AnyLaws.{any-hit, any-miss, any-end}
use Rattle.plane.proofs.FlatLaws.{macros-next, macros-end}
use Rattle.net.specs.Tests.{not_upright}
use Rattle.checks.proofs.any_not_upright.Goals as goal

pub returns-then-is_not_upright : goal.returns-then-is_not_upright
returns-then-is_not_upright c =
    sym
    (c.loop-i.invariant
    ∙ any-hit not_upright _ _ _ (macros-next c.args.macros.now c.loop-i.i (omega arith))
    (sym (c.is_not_upright.ensures ∙ ap not_upright c.macro_at.ensures) ∙ c.if-is_not_upright.true))

pub loop-i-preserved : goal.loop-i-preserved
loop-i-preserved c =
    c.loop-i.invariant
    ∙ any-miss not_upright _ _ _ (macros-next c.args.macros.now c.loop-i.i (omega arith))
    (sym (c.is_not_upright.ensures ∙ ap not_upright c.macro_at.ensures) ∙ c.if-is_not_upright.false)

pub returns : goal.returns
returns c = sym (c.loop-i.invariant ∙ any-end not_upright _ (macros-end c.args.macros.now c.loop-i.i (omega arith)))
