-- A table of distances to one point along the pairs of a list.
use Rattle.std.specs.Prelude.{◌≡◌, ◌⊎◌, List, ℕ, ◌+◌, ◌≤◌, ◌<◌}
use Rattle.joined.specs.Joined.{Link}

-- settled: 0 at the point p, nothing left to lower, and each number below the cap is had over an edge
pub record Nearest {A : Type 0} (G : List (A × A)) (d : A → A → ℕ) (cap : ℕ) (p : A) (t : A → ℕ) : Type 0 where
  pub at-point : t p ≡ 0
  pub quiet : (v w : A) → Link G v w → t v ≤ t w + d v w
  pub why : (v : A) → t v < cap → ((v ≡ p) × (t v ≡ 0)) ⊎ ((w : A) × (Link G v w × (t v ≡ t w + d v w)))
