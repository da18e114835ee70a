-- `refiner::graft::graft` meets its contract: it recurses along parents, and the distance is the number that falls at each call.
-- Assumes nothing.
use native.Mathlib.Omega.{arith}
use Rattle.refiner.proofs.GraftLaws.{graft-none, graft-more, steps-none, steps-more}
use Rattle.refiner.proofs.graft.+graft.Goals as goal

pub graft-h-requires : goal.graft-h-requires
graft-h-requires t c =
    let f = c.requires.nearing in
    let b = c.requires.u_bound in
    let u = c.if-y-lt-VERTICES.true in
    let k = steps-more _ _ _ f.0 f.1 u in (
      omega (arith, f.0.nearer _ f.1 u, c.decreases),
      ((f.0, u), (omega (arith, k, b.0), (omega (arith, k, b.1.0), b.1.1))),
    )

pub leaf-requires : goal.leaf-requires
leaf-requires t c =
    let q = c.graft-h.ensures.points_value in
    let f = c.requires.nearing in
    let b = c.requires.u_bound in
    let k = steps-more _ _ _ f.0 f.1 c.if-y-lt-VERTICES.true in
    ((omega (arith, q.0.0, k, b.0), omega (arith, q.0.1, k, b.1.0)), q.1)

pub returns-then-y-lt-VERTICES : goal.returns-then-y-lt-VERTICES
returns-then-y-lt-VERTICES t c =
    let q = c.graft-h.ensures in
    let r = c.leaf.ensures in
    let f = c.requires.nearing in
    let u = c.if-y-lt-VERTICES.true in
    let k = steps-more _ _ _ f.0 f.1 u in record {
      result_after = graft-more _ _ _ _ f.0 f.1 u _ _ _ _ q.result_after c.place_at.ensures r.result_after;
      points_value = (
        (omega (arith, q.points_value.0.0, r.points_value.0.0, k), omega (arith, q.points_value.0.1, r.points_value.0.1, k)),
        r.points_value.1,
      );
    }

pub returns-else-y-lt-VERTICES : goal.returns-else-y-lt-VERTICES
returns-else-y-lt-VERTICES t c =
    let n = c.if-y-lt-VERTICES.false in
    let k = steps-none c.args.far.now c.args.up.now c.args.u n in record {
      result_after = graft-none _ _ _ _ _ n;
      points_value = ((omega (arith, k), omega (arith, k)), c.requires.u_bound.1.1);
    }
