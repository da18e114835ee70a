-- At first each bound is most.
use Rattle.std.proofs.Common.{arith}
use Rattle.bounds.proofs.CarryLaws.{carrying-start}
use Rattle.bounds.proofs.carry.Goals as goal

pub loop-j-init : goal.loop-j-init
loop-j-init c = ((omega arith, omega arith), carrying-start _ _ _ _ _ _ _ c.requires.f_le_tree_bound.0.1)
