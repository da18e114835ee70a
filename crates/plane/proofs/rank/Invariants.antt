-- All places below `low` come before p, and none from `high` on.
use Rattle.std.proofs.Common.{◌≡◌, ◌-◌, ◌<◌, ◌≤◌, ℕ, true, false}
use Rattle.plane.specs.Place.{before}
use Rattle.plane.specs.Flat.{place_at}
use Rattle.plane.proofs.rank.Given as goal

abbrev pub invariant-loop-low : goal.invariant-loop-low
invariant-loop-low l = record {
  ordered : (l.low ≤ l.high) × (l.high ≤ l.n);
  ahead : (u : ℕ) → u < l.low → before (place_at l.places u) l.p ≡ true;
  after : (u : ℕ) → l.high ≤ u → u < l.n → before (place_at l.places u) l.p ≡ false;
}

abbrev pub decreases-loop-low : goal.decreases-loop-low
decreases-loop-low l = l.high - l.low
