-- `forest::way_length` meets its contract: it recurses along parents, and the distance is the number that falls at each call.
-- Assumes nothing.
use mathlib.Core.Path.{sym}
use native.Mathlib.Omega.{arith}
use Rattle.forest.proofs.WayLaws.{root-way, step-length}
use Rattle.forest.proofs.+way_length.Goals as goal

pub returns-then-u-lt-POINTS : goal.returns-then-u-lt-POINTS
returns-then-u-lt-POINTS t c =
    let f = c.requires.0 in
    let u = c.if-u-lt-POINTS.true in
    let e = step-length _ _ _ f _ c.requires.1.1 u in
    record {
      value = omega (arith, e, c.way_length.ensures.value);
      upper_bound = omega (arith, c.way_length.ensures.upper_bound, f.falls _ c.requires.1.1 u);
    }

pub returns-else-u-lt-POINTS-clause-value : goal.returns-else-u-lt-POINTS-clause-value
returns-else-u-lt-POINTS-clause-value t c = sym (root-way _ _ _ _ c.if-u-lt-POINTS.false)
