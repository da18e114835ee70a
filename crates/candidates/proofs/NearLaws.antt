-- Points too far from the box of an edge, across alone, change nothing: those before the first near one and those after the last.
-- Assumes nothing.
use mathlib.Core.Path.{◌≡◌, refl, sym, ap, ap₂, ◌∙◌}
use mathlib.Core.Bool.{false, ◌&&◌, ◌||◌}
use mathlib.Core.List.{List}
use Prim.Native.Nat.{ℕ, zero, suc, ◌+◌, ◌-◌, ◌≤◌, ◌<◌}
use native.Mathlib.Omega.{arith}
use lib.Dec.{ltb, eqb}
use lib.IntN.{ℤ}
use lib.ListN.{get_or}
use borrow.Author.Tests.{ltb-true, le-ltb}
use Rattle.lists.specs.Turns.{turns}
use Rattle.lists.proofs.TestLaws.{by, and_left}
use Rattle.plane.specs.declared.Macro.{Macro}
use Rattle.plane.specs.declared.Weights.{Weights}
use Rattle.plane.specs.Cost.{cost}
use Rattle.plane.specs.Flat.{place_at}
use Rattle.tree.specs.Table.{Low}
use Rattle.longest.specs.Longest.{cut_of}
use Rattle.near.specs.Box.{box_of, box_cost}
use Rattle.candidates.specs.declared.Best.{Best}
use Rattle.triples.specs.Triple.{allowed, may_gain}
use Rattle.candidates.specs.Candidate.{middle_of, weighed, offer}
use Rattle.candidates.proofs.CandidateLaws.{offer-far}

-- Turns that change nothing

module _ {S : Type 0} (f : ℕ → S → S) where
  pub turns-back : (n i : ℕ) (s : S) → ((u : ℕ) → i ≤ u → u < i + n → f u s ≡ s) → turns f i n s ≡ s
  unfolding turns
  turns-back zero i s h = refl
  turns-back (suc n) i s h =
      ap (turns f (suc i) n) (h i (omega arith) (omega arith)) ∙ turns-back n (suc i) s (λ u a b. h u (omega arith) (omega arith))

  pub turns-front : (r i n : ℕ) (s : S) → ((u : ℕ) → i ≤ u → u < i + r → f u s ≡ s) → turns f (i + r) n s ≡ turns f i (r + n) s
  unfolding turns
  turns-front zero i n s h =
      ap₂ (λ (k l : ℕ). turns f k l s) (let z : i + 0 ≡ i = omega arith in z) (let z : n ≡ 0 + n = omega arith in z)
  turns-front (suc r) i n s h =
      ap (λ (k : ℕ). turns f k n s) (let z : i + suc r ≡ suc i + r = omega arith in z)
      ∙ turns-front r (suc i) n s (λ u a b. h u (omega arith) (omega arith))
      ∙ sym (ap (turns f (suc i) (r + n)) (h i (omega arith) (omega arith)))
      ∙ ap (λ (k : ℕ). turns f i k s) (let z : suc (r + n) ≡ suc r + n = omega arith in z)

  -- the first r change nothing
  pub turns-from : (r n : ℕ) (s : S) → r ≤ n → ((u : ℕ) → u < r → f u s ≡ s) → turns f r (n - r) s ≡ turns f 0 n s
  turns-from r n s l h =
      ap (λ (k : ℕ). turns f k (n - r) s) (let z : r ≡ 0 + r = omega arith in z)
      ∙ turns-front r 0 (n - r) s (λ u a b. h u (omega arith))
      ∙ ap (λ (k : ℕ). turns f 0 k s) (let z : r + (n - r) ≡ n = omega (arith, l) in z)

-- What is chosen gains no less

module _ (w : Weights) (pts : List ℤ) (n : ℕ) (ms : List Macro) (a b k u : ℕ) where
  weighed-more : (l x : ℕ) (c : Best) → c.gain ≤ (weighed w pts n ms a b k u l x c).gain
  unfolding weighed
  weighed-more l x c =
      let d = cost w (middle_of pts a b u) (place_at pts u) in
      let s = allowed pts n ms a b u (middle_of pts a b u) in
      by (ltb (c.gain + d) x && s)
      (λ t. rw t (omega (arith, ltb-true (c.gain + d) x (and_left (ltb (c.gain + d) x) s t))))
      (λ t. rw t (omega arith))

  pub offer-more : (el top : List ℕ) (c : Best) → c.gain ≤ (offer w pts n ms el top a b k u c).gain
  unfolding offer
  offer-more el top c =
      let l = cut_of el top a b u in
      by (eqb u a || (eqb u b || eqb l k)) (λ t. rw t (omega arith)) (λ t. rw t (weighed-more l (get_or el l 0) c))

-- so a point too far at the start of an edge is so for all of it
module _ (w : Weights) (pts : List ℤ) (n : ℕ) (ms : List Macro) (el top : List ℕ) (a b k u : ℕ) (c : Best)
    (m : Macro) (i : m ≡ box_of (place_at pts a) (place_at pts b)) (most : ℕ) (low : Low most el) where
  pub offer-beyond : (g : ℕ) → g ≤ c.gain → most - g ≤ box_cost w m (place_at pts u) → offer w pts n ms el top a b k u c ≡ c
  unfolding may_gain
  offer-beyond g h f =
      sym (offer-far w pts n ms el top a b k u c m i (place_at pts u) refl most low false
      (sym (le-ltb (c.gain + (box_cost w m (place_at pts u) + 0)) most (omega (arith, h, f)))) refl)
