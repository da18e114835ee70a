-- Walks put together, and each step of a walk replaced by a walk of the same cost.
-- Assumes nothing.
use mathlib.Core.Path.{◌≡◌, refl, ◌∙◌}
use mathlib.Core.List.{List, [], ◌++◌}
use Prim.Native.Nat.{ℕ, ◌+◌}
use native.Mathlib.Omega.{arith}
use Rattle.joined.specs.Joined.{Link}
use Rattle.joined.specs.Way.{Way, stop as halt, go as on, long}
use Rattle.grid.specs.Walk.{Walk, stop, go, Exactly}

module _ {A : Type 0} where
  pub walk-cast : {R : A → A → Type 0} {x y z : A} {ps : List A} → x ≡ y → Walk R y ps z → Walk R x ps z
  walk-cast e (stop f) = stop (e ∙ f)
  walk-cast e (go r w) = rw e (go r w)

  pub walk-then : {R : A → A → Type 0} {x y z : A} {ps qs : List A} → Walk R x ps y → Walk R y qs z → Walk R x (ps ++ qs) z
  walk-then (stop e) v = walk-cast e v
  walk-then (go r w) v = go r (walk-then w v)

  pub long-then : {R : A → A → Type 0} (d : A → A → ℕ) {x y : A} {ps : List A} → Walk R x ps y → (qs : List A) →
      long d x (ps ++ qs) ≡ long d x ps + long d y qs
  unfolding long
  long-then d (stop e) qs = rw e (omega arith)
  long-then d (go r w) qs = omega (arith, long-then d w qs)

  pub walk-map : {R S : A → A → Type 0} → ((x y : A) → R x y → S x y) → {x y : A} {ps : List A} → Walk R x ps y → Walk S x ps y
  walk-map f (stop e) = stop e
  walk-map f (go r w) = go (f _ _ r) (walk-map f w)

  pub walk-each : {R S : A → A → Type 0} (d : A → A → ℕ) → ((x y : A) → R x y → Exactly S d x y (d x y)) →
      {x y : A} {ps : List A} → Walk R x ps y → Exactly S d x y (long d x ps)
  unfolding long
  walk-each d f (stop e) = record { points = []; walk = stop e; costs = refl }
  walk-each d f (go {x = x} {y = y} r w) =
      let a = f x y r in
      let b = walk-each d f w in
      record {
        points = a.points ++ b.points;
        walk = walk-then a.walk b.walk;
        costs = omega (arith, long-then d a.walk b.points, a.costs, b.costs);
      }

  -- ways along a list of pairs
  pub way-walk : {L : List (A × A)} {x y : A} {ps : List A} → Way L x ps y → Walk (Link L) x ps y
  way-walk (halt e) = stop e
  way-walk (on l w) = go l (way-walk w)

  pub walk-way : {L : List (A × A)} {x y : A} {ps : List A} → Walk (Link L) x ps y → Way L x ps y
  walk-way (stop e) = halt e
  walk-way (go l w) = on l (walk-way w)
