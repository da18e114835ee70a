-- All points after one that is too far right are so too.
use Rattle.std.proofs.Common.{rules, ◌<◌, arith}
use Rattle.plane.specs.Flat.{place_at}
use Rattle.near.specs.Box.{FarRight}
use Rattle.near.proofs.TableLaws.{right_of}
use Rattle.near.proofs.to.Goals as goal

pub returns : goal.returns
returns c = (
  c.cut.ensures.within,
  λ u h k.
      let some : c.cut.result < c.args.n = omega arith in
      let e = c.cut.ensures.after some in
      let z : FarRight c.args.w c.args.m (place_at c.args.pts.now c.cut.result) c.args.limit = search rules in
      right_of c.args.w c.args.m c.args.pts.now c.args.n c.requires.n_in_bounds.1 c.args.limit c.cut.result some c.requires.le z u h k,
)
