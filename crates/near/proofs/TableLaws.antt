-- A table in the order of places, by x: where one point is too far left of a box, so are all before it, and to the right all after it.
-- Assumes nothing.
use mathlib.Core.Path.{◌≡◌}
use mathlib.Core.Bool.{true}
use mathlib.Core.List.{List}
use Prim.Native.Nat.{ℕ, ◌+◌, ◌≤◌, ◌<◌}
use native.Mathlib.Omega.{arith}
use lib.Dec.{ltb}
use lib.IntN.{ℤ}
use borrow.Author.Tests.{ltb-true, ltb-false}
use Rattle.lists.proofs.TestLaws.{by, either}
use Rattle.signed.specs.Sides.{Le}
use Rattle.signed.proofs.SideLaws.{signed}
use Rattle.plane.specs.declared.Place.{Place}
use Rattle.plane.specs.declared.Macro.{Macro}
use Rattle.plane.specs.declared.Weights.{Weights}
use Rattle.plane.specs.Place.{before}
use Rattle.plane.specs.Flat.{place_at}
use Rattle.plane.specs.Rank.{InOrder}
use Rattle.plane.proofs.PlaceLaws.{before-true}
use Rattle.near.specs.Box.{box_cost, FarLeft, FarRight}

before-x : (p q : Place) → before p q ≡ true → Le p.x q.x
before-x p q h = either (λ l. omega (signed, l)) (λ r. rw r.0 (omega signed)) (before-true p q h)

in_order : (pts : List ℤ) (n : ℕ) → InOrder pts n → (i j : ℕ) → i ≤ j → j < n → Le (place_at pts i).x (place_at pts j).x
in_order pts n o i j h k =
    by (ltb i j)
    (λ t. before-x (place_at pts i) (place_at pts j) (o i j (ltb-true i j t) k))
    (λ t. let e : i ≡ j = omega (arith, ltb-false i j t) in rw e (omega signed))

module _ (w : Weights) (m : Macro) (pts : List ℤ) (n : ℕ) (o : InOrder pts n) (limit mid : ℕ) (k : mid < n) where
  pub left-of : FarLeft w m (place_at pts mid) limit → (u : ℕ) → u < mid + 1 → limit ≤ box_cost w m (place_at pts u)
  left-of f u h = f (place_at pts u) (in_order pts n o u mid (omega arith) k)

  pub right_of : Le m.left m.right → FarRight w m (place_at pts mid) limit → (u : ℕ) → mid ≤ u → u < n
      → limit ≤ box_cost w m (place_at pts u)
  right_of i f u h l = f i (place_at pts u) (in_order pts n o mid u h l)
