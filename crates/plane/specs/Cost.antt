-- What metal between two places costs: the gap along each axis, at that axis's weight. Weights of 1 make it the distance; what is
-- measured as metal is the distance, whatever the weights.
use Rattle.std.specs.Prelude.{ℕ, ◌+◌, ◌*◌, ◌^◌, ◌≤◌}
use Rattle.plane.specs.declared.Place.{Place}
use Rattle.plane.specs.declared.Weights.{Weights}
use Rattle.plane.specs.Distance.{apart}

unfoldable pub cost : Weights → Place → Place → ℕ
cost w a b = apart a.x b.x * w.across + apart a.y b.y * w.along

-- 1 along both axes
abbrev pub plain : Weights
plain = record { across = 1; along = 1 }

-- above every cost of 32-bit places: a gap is below 2^32 and a weight below 2^8
abbrev pub cost_limit : ℕ
cost_limit = 2 ^ 41

-- weights with which only equal places cost nothing
pub record Positive (w : Weights) : Type 0 where
  pub across : 1 ≤ w.across
  pub along : 1 ≤ w.along
