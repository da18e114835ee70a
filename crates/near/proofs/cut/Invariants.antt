-- The test fails at the point before `low` and holds at `high`, where there are such points. The measure is how many are left to ask.
use Rattle.std.proofs.Common.{true, false, ◌-◌, ◌≤◌, ◌<◌}
use Rattle.plane.specs.Flat.{place_at}
use Rattle.near.proofs.cut.Given as goal

abbrev pub invariant-loop-low : goal.invariant-loop-low
invariant-loop-low g l = (l.low ≤ l.high) × ((l.high ≤ l.n)
    × ((0 < l.low → goal.F-post g l.holds (place_at l.pts (l.low - 1)) false)
    × (l.high < l.n → goal.F-post g l.holds (place_at l.pts l.high) true)))

abbrev pub decreases-loop-low : goal.decreases-loop-low
decreases-loop-low g l = l.high - l.low
