-- The length of the path that a bridge stands for: a way, the bridge and a way, and small enough to add to.
-- Assumes nothing.
use mathlib.Core.Path.{◌≡◌}
use mathlib.Core.List.{List, [], ◌∷◌, ◌++◌, map}
use Prim.Native.Nat.{ℕ, ◌+◌, ◌≤◌, ◌<◌}
use native.Mathlib.Omega.{arith}
use Rattle.lists.specs.Total.{total}
use Rattle.forest.specs.Bounds.{path_bound}
use Rattle.forest.specs.Edges.{Graph, one, two, len, Fits}
use Rattle.forest.specs.Labels.{Low}
use Rattle.forest.specs.Parents.{Parents, way, way_length, Falls}
use Rattle.bridges.specs.Bridges.{path, path_length}
use Rattle.forest.proofs.WayLaws.{way-low}

total-map : (f : ℕ → ℕ) (l m : List ℕ) → total (map f (l ++ m)) ≡ total (map f l) + total (map f m)
unfolding total
total-map f [] m = omega arith
total-map f (x ∷ l) m = omega (arith, total-map f l m)

-- a path is a way, the bridge and a way
pub path-parts : (g : Graph) (fars : List ℕ) (p : Parents) (k : ℕ) →
    path_length g fars p k ≡ way_length g.lengths fars p (one g k) + len g k + way_length g.lengths fars p (two g k)
unfolding path_length path way_length total
path-parts g fars p k = omega (arith, total-map (len g) (way fars p (one g k)) (k ∷ way fars p (two g k)))

pub path-low : (g : Graph) (fars : List ℕ) (p : Parents) → Fits g → Falls g.lengths fars p → Low fars → (k : ℕ) → k < g.count →
    path_length g fars p k ≤ path_bound
path-low g fars p fits f l k h =
    omega (
      arith,
      path-parts g fars p k,
      way-low g.lengths fars p f (one g k) (fits.one_in k h),
      way-low g.lengths fars p f (two g k) (fits.two_in k h),
      fits.short k h,
      l.low (one g k),
      l.low (two g k),
    )
