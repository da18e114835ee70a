-- Laws of the longer of two edges and of the table of longest edges.
-- Assumes nothing.
use mathlib.Core.Path.{◌≡◌, refl}
use mathlib.Core.Bool.{true, false}
use mathlib.Core.List.{List, [], ◌∷◌}
use Prim.Native.Nat.{ℕ, zero, suc, ◌-◌, ◌≤◌, ◌<◌}
use native.Mathlib.Omega.{arith}
use lib.Dec.{ltb, eqb}
use lib.ListN.{get_or, set}
use borrow.Author.Tests.{lt-ltb, le-ltb}
use lib.IntN.{ℤ}
use Rattle.plane.specs.declared.Place.{Place}
use Rattle.plane.specs.declared.Weights.{Weights}
use Rattle.plane.specs.Cost.{cost}
use Rattle.plane.specs.Flat.{place_at}
use Rattle.lists.proofs.TestLaws.{by}
use Rattle.longest.specs.Longest.{Reach, attach, hang, longer, measure, edge_cost, no_edge, shorter, spread, spreads, wins}
use Rattle.tree.specs.Table.{Small, first_end, key, tree_bound, second_end}
use Rattle.lists.proofs.TurnLaws.{turns-keep}

pub measure-is : (w : Weights) (pts : List ℤ) (keys : List ℕ) (k d : ℕ) (el : List ℕ) → d ≡ edge_cost w pts keys k
    → set el k d ≡ measure w pts keys k el
unfolding measure
measure-is w pts keys k d el e = rw e refl

pub longer-yes : (w : List ℕ) (k l : ℕ) → wins w k l ≡ true → k ≡ longer w k l
unfolding longer
longer-yes w k l e = rw (longer, e) refl

pub longer-no : (w : List ℕ) (k l : ℕ) → wins w k l ≡ false → l ≡ longer w k l
unfolding longer
longer-no w k l e = rw (longer, e) refl

pub shorter-yes : (w : List ℕ) (k l : ℕ) → wins w k l ≡ true → l ≡ shorter w k l
unfolding shorter
shorter-yes w k l e = rw (shorter, e) refl

pub shorter-no : (w : List ℕ) (k l : ℕ) → wins w k l ≡ false → k ≡ shorter w k l
unfolding shorter
shorter-no w k l e = rw (shorter, e) refl

-- numbers stay small
small_at : (n : ℕ) (xs : List ℕ) (v x : ℕ) → x < n → ((i : ℕ) → get_or xs i 0 < n) → (i : ℕ) → get_or (set xs v x) i 0 < n
small_at n [] v x h l i = l i
small_at n (y ∷ ys) zero x h l zero = h
small_at n (y ∷ ys) zero x h l (suc i) = l (suc i)
small_at n (y ∷ ys) (suc v) x h l zero = l zero
small_at n (y ∷ ys) (suc v) x h l (suc i) = small_at n ys v x h (λ j. l (suc j)) i

pub small-set : (n : ℕ) (xs : List ℕ) (v x : ℕ) → x < n → Small n xs → Small n (set xs v x)
small-set n xs v x h s = record { small = small_at n xs v x h s.small }

longer-small : (m : ℕ) (el : List ℕ) (k l : ℕ) → k < m → l < m → longer el k l < m
longer-small m el k l h i = by (wins el k l) (λ e. rw (← longer-yes el k l e) h) (λ e. rw (← longer-no el k l e) i)

pub small-spread : (m : ℕ) (el : List ℕ) (v p k w : ℕ) (t : List ℕ) → k < m → Small m t → Small m (spread el v p k w t)
unfolding spread
small-spread m el v p k w t h s =
    let x = longer-small m el (get_or t (key p w) 0) k (s.small (key p w)) h in
    small-set m _ _ _ x (small-set m t _ _ x s)

pub small-spreads : (el : List ℕ) (n v p k : ℕ) (t : List ℕ) → k < tree_bound → Small tree_bound t → Small tree_bound (spreads el n v p k t)
unfolding spreads
small-spreads el n v p k t h s =
    small-set tree_bound _ _ _ (omega arith) (turns-keep (spread el v p k) (Small tree_bound) n 0 t
    (λ j u q. small-spread tree_bound el v p k j u h q) s)

pub small-attach : (el : List ℕ) (n a b k : ℕ) (r : Reach) → k < tree_bound → Small tree_bound r.top →
    Small tree_bound (attach el n a b k r).top
unfolding attach hang
small-attach el n a b k r h s =
    by (eqb (get_or r.seen a 0) (get_or r.seen b 0))
    (λ e. rw (attach, e) s)
    (λ e. by (eqb (get_or r.seen a 0) 0) (λ f. rw (attach, e, f) (small-spreads el n a b k r.top h s))
    (λ f. rw (attach, e, f) (small-spreads el n b a k r.top h s)))
