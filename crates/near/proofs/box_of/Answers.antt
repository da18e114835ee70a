-- Its sides are the smaller and the greater of two coordinates.
use Rattle.std.proofs.Common.{arith}
use Rattle.std.proofs.lemmas.Int.{to_z-of_z}
use Rattle.near.specs.Box.{box_of}
use Rattle.plane.proofs.MachineLaws.{min_is, max_is}
use Rattle.near.proofs.box_of.Goals as goal

pub returns : goal.returns
unfolding box_of
returns c = grind (arith, to_z-of_z, min_is, max_is)
