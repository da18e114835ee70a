use Rattle.std.proofs.Common.{arith}
use Rattle.links.proofs.ReachLaws.{reached-none}
use Rattle.links.proofs.reach.Goals as goal

pub loop-k-init : goal.loop-k-init
loop-k-init c = record { long = omega arith; reached = reached-none _ _ _ }
