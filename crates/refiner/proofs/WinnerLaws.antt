-- What is known of the candidate that a round takes: every candidate that takes the place of the best so far is one, not dropped, with L by
-- `cut_of` and the gain by its costs; so the last one is.
-- Assumes nothing.
use mathlib.Core.Path.{◌≡◌, refl}
use mathlib.Core.Bool.{true, false, not, ◌&&◌, ◌||◌}
use mathlib.Core.List.{List}
use Prim.Native.Nat.{ℕ, ◌+◌, ◌<◌}
use native.Mathlib.Omega.{arith}
use lib.Dec.{ltb, eqb}
use lib.IntN.{ℤ}
use lib.ListN.{get_or}
use borrow.Author.Tests.{ltb-true, eqb-false, not-true}
use Rattle.lists.proofs.TestLaws.{by, and_left, and_right, or-none}
use Rattle.plane.specs.declared.Macro.{Macro}
use Rattle.plane.specs.declared.Weights.{Weights}
use Rattle.plane.specs.Cost.{cost}
use Rattle.plane.specs.Flat.{place_at}
use Rattle.candidates.specs.declared.Best.{Best}
use Rattle.tree.specs.Table.{first_end, second_end}
use Rattle.longest.specs.Longest.{costs, cut_of, longest}
use Rattle.triples.specs.Triple.{sees, dropped, allowed}
use Rattle.candidates.specs.Candidate.{best, middle_of, weighed, offer, offers, search, found}
use Rattle.lists.proofs.TurnLaws.{turns-below}

-- the candidate of the edge k and the point u, with L and gain
pub record Winner (w : Weights) (ms : List Macro) (pts : List ℤ) (n : ℕ) (ks : List ℕ) (e : ℕ) (el top : List ℕ)
    (gain k u l : ℕ) : Type 0 where
  pub edge : k < e
  pub point : u < n
  pub not_first : u ≡ first_end (get_or ks k 0) → ⊥
  pub not_second : u ≡ second_end (get_or ks k 0) → ⊥
  pub two : l ≡ k → ⊥
  pub cut : l ≡ cut_of el top (first_end (get_or ks k 0)) (second_end (get_or ks k 0)) u
  pub seen : sees ms (place_at pts (first_end (get_or ks k 0))) (place_at pts (second_end (get_or ks k 0))) (place_at pts u) ≡ true
  pub kept : dropped pts n (first_end (get_or ks k 0)) (second_end (get_or ks k 0)) u
      (middle_of pts (first_end (get_or ks k 0)) (second_end (get_or ks k 0)) u) ≡ false
  pub gained : gain + cost w (middle_of pts (first_end (get_or ks k 0)) (second_end (get_or ks k 0)) u) (place_at pts u) ≡ get_or el l 0

module _ (w : Weights) (ms : List Macro) (pts : List ℤ) (n : ℕ) (ks : List ℕ) (e : ℕ) (el top : List ℕ) where
  abbrev Wins : Best → Type 0
  Wins c = 0 < c.gain → Winner w ms pts n ks e el top c.gain c.edge c.point c.cut

  offer-wins : (k : ℕ) → k < e → (u : ℕ) (c : Best) → u < n → Wins c →
      Wins (offer w pts n ms el top (first_end (get_or ks k 0)) (second_end (get_or ks k 0)) k u c)
  unfolding offer weighed allowed
  offer-wins k h u c i f =
      let a = first_end (get_or ks k 0) in
      let b = second_end (get_or ks k 0) in
      let l = cut_of el top a b u in
      let s = middle_of pts a b u in
      let d = cost w s (place_at pts u) in
      by (eqb u a || (eqb u b || eqb l k)) (λ t. rw t f) λ t.
      by (ltb (c.gain + d) (get_or el l 0) && (sees ms (place_at pts a) (place_at pts b) (place_at pts u) && not (dropped pts n a b u s)))
      (λ y.
      let more = ltb-true (c.gain + d) (get_or el l 0) (and_left _ _ y) in
      let fit = and_right (ltb (c.gain + d) (get_or el l 0)) _ y in
      let no-a = or-none (eqb u a) _ t in
      let no-b = or-none (eqb u b) _ no-a.1 in
      rw (t, y) λ g. record {
        edge = h;
        point = i;
        not_first = eqb-false _ _ no-a.0;
        not_second = eqb-false _ _ no-b.0;
        two = eqb-false _ _ no-b.1;
        cut = refl;
        seen = and_left _ _ fit;
        kept = not-true _ (and_right (sees ms (place_at pts a) (place_at pts b) (place_at pts u)) _ fit);
        gained = omega (arith, more);
      })
      (λ y. rw (t, y) f)

  offers-wins : (k : ℕ) (c : Best) → k < e → Wins c → Wins (offers w pts n ms ks el top k c)
  unfolding offers
  offers-wins k c h f =
      turns-below (offer w pts n ms el top (first_end (get_or ks k 0)) (second_end (get_or ks k 0)) k) Wins n
      (λ j t i q. offer-wins k h j t i q) n 0 c (omega arith) f

  pub search-wins : Wins (search w pts n ms ks e el top)
  unfolding search
  search-wins =
      turns-below (offers w pts n ms ks el top) Wins e (λ j t i q. offers-wins j t i q) e 0 (best 0 0 0 0) (omega arith)
      (λ g. absurd (let z : ⊥ = omega arith in z))

pub found-wins : (w : Weights) (ms : List Macro) (pts : List ℤ) (n : ℕ) (ks : List ℕ) (e : ℕ) → 0 < (found w ms pts n ks e).gain →
    Winner w ms pts n ks e (costs w pts ks e) (longest ks (costs w pts ks e) e n) (found w ms pts n ks e).gain
    (found w ms pts n ks e).edge (found w ms pts n ks e).point (found w ms pts n ks e).cut
unfolding found
found-wins w ms pts n ks e h = search-wins w ms pts n ks e (costs w pts ks e) (longest ks (costs w pts ks e) e n) h
