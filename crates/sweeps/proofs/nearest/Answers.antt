use Rattle.std.proofs.Common.{◌≡◌, arith}
use Rattle.sweeps.proofs.TableLaws as laws
use Rattle.sweeps.proofs.nearest.Goals as goal

pub loop-i-init : goal.loop-i-init
loop-i-init c = laws.least-none _ _

pub bounds-row-numbers : goal.bounds-row-numbers
bounds-row-numbers c = omega (arith, c.requires.below c.loop-i.i, c.requires.row.0.size)

pub loop-i-preserved : goal.loop-i-preserved
loop-i-preserved c = laws.least_step _ _ _ _ c.loop-i.invariant _ c.min-t.ensures

pub returns : goal.returns
returns c = let n : c.loop-i.i ≡ c.args.n = omega (arith, c.loop-i-test.false) in rw (← n) c.loop-i.invariant
