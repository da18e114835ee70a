-- All points before one that is too far left are so too.
use Rattle.std.proofs.Common.{rules, ◌<◌, ◌-◌, arith}
use Rattle.plane.specs.Flat.{place_at}
use Rattle.near.specs.Box.{FarLeft}
use Rattle.near.proofs.TableLaws.{left-of}
use Rattle.near.proofs.from.Goals as goal

pub returns : goal.returns
returns c = (
  c.cut.ensures.within,
  λ u h.
      let some : 0 < c.cut.result = omega arith in
      let e = c.cut.ensures.before some in
      let z : FarLeft c.args.w c.args.m (place_at c.args.pts.now (c.cut.result - 1)) c.args.limit = search rules in
      left-of c.args.w c.args.m c.args.pts.now c.args.n c.requires.1 c.args.limit (c.cut.result - 1) (omega arith) z u (omega arith),
)
