-- A settled table of distances is the least cost of a way along the pairs: never above a way, by induction on the way, and the cost of one,
-- by induction on the number. Pairs that join v with the point cost no less together: one of them at v is taken out, and the others join
-- the point with v still, or with its other end.
-- Assumes nothing.
use mathlib.Core.Path.{◌≡◌, sym}
use mathlib.Core.Logic.{◌⊎◌, inl, inr}
use mathlib.Core.List.{List, [], ◌∷◌}
use Prim.Native.Nat.{ℕ, zero, suc, ◌+◌, ◌≤◌, ◌<◌}
use native.Mathlib.Omega.{arith}
use lib.ListN.{length}
use Rattle.lists.specs.Member.{◌∈◌}
use Rattle.lists.proofs.TestLaws.{either}
use Rattle.joined.specs.Joined.{Link, others, Joined, stay, step, Across, beside, forwards, backwards}
use Rattle.joined.specs.Cost.{Cost, lengths}
use Rattle.joined.specs.Way.{Way, stop, go, long}
use Rattle.joined.proofs.JoinedLaws.{without}
use Rattle.joined.proofs.OtherLaws.{length-others, others-among}
use Rattle.joined.proofs.CostLaws.{lengths-others}
use Rattle.grid.specs.Nearest.{Nearest}

module _ {A : Type 0} (G : List (A × A)) (d : A → A → ℕ) (cap : ℕ) (p : A) (t : A → ℕ) (n : Nearest G d cap p t) where
  -- no way to the pin is cheaper
  pub nearest-least : {v : A} {ps : List A} → Way G v ps p → t v ≤ long d v ps
  unfolding long
  nearest-least (stop e) = rw e (omega (arith, n.at-point))
  nearest-least (go {x = x} {y = y} l w) = omega (arith, nearest-least w, n.quiet x y l)

  -- and one costs just that
  pub record WayOf (v : A) : Type 0 where
    pub points : List A
    pub way : Way G v points p
    pub costs : long d v points ≡ t v

  way_at : (positive : (a b : A) → Link G a b → 1 ≤ d a b) (k : ℕ) (v : A) → t v ≤ k → t v < cap → WayOf v
  unfolding long
  way_at positive zero v h low = at (n.why v low)
    where
      at : ((v ≡ p) × (t v ≡ 0)) ⊎ ((w : A) × (Link G v w × (t v ≡ t w + d v w))) → WayOf v
      at (inl e) = record { points = []; way = stop e.0; costs = sym e.1 }
      at (inr r) = let z : ⊥ = omega (arith, h, r.1.1, positive v r.0 r.1.0) in absurd z
  way_at positive (suc k) v h low = at (λ w i j. way_at positive k w i j) (n.why v low)
    where
      at : ((w : A) → t w ≤ k → t w < cap → WayOf w) → ((v ≡ p) × (t v ≡ 0)) ⊎ ((w : A) × (Link G v w × (t v ≡ t w + d v w))) → WayOf v
      at ih (inl e) = record { points = []; way = stop e.0; costs = sym e.1 }
      at ih (inr r) =
          let i = positive v r.0 r.1.0 in
          let s = ih r.0 (omega (arith, h, r.1.1, i)) (omega (arith, low, r.1.1)) in
          record { points = r.0 ∷ s.points; way = go r.1.0 s.way; costs = omega (arith, s.costs, r.1.1) }

  pub nearest-way : ((a b : A) → Link G a b → 1 ≤ d a b) → (v : A) → t v < cap → WayOf v
  nearest-way positive v low = way_at positive (t v) v (omega arith) low

-- one pair less: what it was joined with is still joined with one of its ends
module _ {A : Type 0} where
  pub end-or-end : {F : List (A × A)} {v w p : A} (l : Link F v w) → Joined F v p → Joined (others l) v p ⊎ Joined (others l) w p
  unfolding others
  end-or-end (inl m) j = at (without m j)
    where
      at : {L : List (A × A)} {v w p : A} → Across L v w v p → Joined L v p ⊎ Joined L w p
      at (beside k) = inl k
      at (forwards i k) = inr k
      at (backwards i k) = inl k
  end-or-end (inr m) j = at (without m j)
    where
      at : {L : List (A × A)} {v w p : A} → Across L w v v p → Joined L v p ⊎ Joined L w p
      at (beside k) = inl k
      at (forwards i k) = inl k
      at (backwards i k) = inr k

module _ {A : Type 0} (G : List (A × A)) (d : A → A → ℕ) (length-of : Cost d) (cap : ℕ) (p : A) (t : A → ℕ) (n : Nearest G d cap p t) where
  -- what is to be shown of lists of at most k pairs
  abbrev Bound : ℕ → Type 0
  Bound k = (F : List (A × A)) (v : A) → length F ≤ k → ((a b : A) → (a, b) ∈ F → Link G a b) → Joined F v p → t v ≤ lengths d F

  module _ (k : ℕ) (ih : Bound k) (F : List (A × A)) (v w : A) (l : Link F v w) (size : length F ≤ suc k)
      (on-graph : (a b : A) → (a, b) ∈ F → Link G a b) (j : Joined F v p) where
    edge : Link G v w
    edge = either (on-graph v w) (λ m. either inr inl (on-graph w v m)) l

    rest-on : (a b : A) → (a, b) ∈ others l → Link G a b
    rest-on a b m = on-graph a b (others-among l (a, b) m)

    rest-bound : (u : A) → Joined (others l) u p → t u ≤ lengths d (others l)
    rest-bound u i = ih (others l) u (omega (arith, length-others l, size)) rest-on i

    linked : t v ≤ lengths d F
    linked =
        either
        (λ i. omega (arith, lengths-others d length-of l, rest-bound v i))
        (λ i. omega (arith, lengths-others d length-of l, rest-bound w i, n.quiet v w edge))
        (end-or-end l j)

  -- v is the point, or a pair leads on from v
  onward : {F : List (A × A)} {v : A} → Joined F v p → (v ≡ p) ⊎ ((w : A) × Link F v w)
  onward (stay e) = inl e
  onward (step {y = w} l j) = inr (w, l)

  bound : (k : ℕ) → Bound k
  bound zero F v size on j =
      either (λ e. rw e (omega (arith, n.at-point))) (λ s. let z : ⊥ = omega (arith, length-others s.1, size) in absurd z) (onward j)
  bound (suc k) F v size on j =
      either (λ e. rw e (omega (arith, n.at-point))) (λ s. linked k (bound k) F v s.0 s.1 size on j) (onward j)

  pub nearest-joined : (F : List (A × A)) (v : A) → ((a b : A) → (a, b) ∈ F → Link G a b) → Joined F v p → t v ≤ lengths d F
  nearest-joined F v on j = bound (length F) F v (omega arith) on j
