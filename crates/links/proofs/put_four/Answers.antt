use Rattle.std.proofs.Common.{arith, ◌*◌}
use Rattle.links.specs.Links.{four_picks}
use Rattle.links.proofs.PickTable.{put_mid-sets}
use Rattle.links.proofs.put_four.Goals as goal

pub returns : goal.returns
returns c =
    rw c.copy_from_slice.ensures.after
    (put_mid-sets c.args.picked.now (four_picks c.args.above c.args.below) (c.args.k * 4) _ (omega arith) (omega arith))
