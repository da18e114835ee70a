-- What the search finds is in range.
-- Assumes nothing.
use mathlib.Core.Path.{◌≡◌}
use mathlib.Core.Bool.{◌&&◌, ◌||◌}
use mathlib.Core.List.{List}
use Prim.Native.Nat.{ℕ, ◌+◌, ◌<◌}
use native.Mathlib.Omega.{arith}
use lib.Dec.{ltb, eqb}
use lib.IntN.{ℤ}
use lib.ListN.{get_or}
use borrow.Author.Tests.{ltb-true, eqb-false}
use Rattle.plane.specs.declared.Macro.{Macro}
use Rattle.plane.specs.declared.Weights.{Weights}
use Rattle.plane.specs.Cost.{cost}
use Rattle.plane.specs.Flat.{place_at}
use Rattle.lists.proofs.TestLaws.{by, and_left, or-none}
use Rattle.candidates.specs.declared.Best.{Best}
use Rattle.longest.specs.Longest.{cut_of}
use Rattle.triples.specs.Triple.{allowed}
use Rattle.candidates.specs.Candidate.{best, middle_of, weighed, offer, offers, search}
use Rattle.tree.specs.Table.{first_end, second_end}
use Rattle.lists.proofs.TurnLaws.{turns-below}

-- a candidate with a gain names an edge, another edge with a length, and a point
abbrev pub Fine : List ℕ → ℕ → ℕ → Best → Type 0
Fine el e n c = 0 < c.gain → ((c.edge < e) × (c.point < n)) × ((0 < get_or el c.cut 0) × (c.cut ≡ c.edge → ⊥))

module _ (w : Weights) (pts : List ℤ) (e n : ℕ) (ms : List Macro) (keys el top : List ℕ) where
  fine-offer : (a b k : ℕ) → k < e → (u : ℕ) (c : Best) → u < n → Fine el e n c → Fine el e n (offer w pts n ms el top a b k u c)
  unfolding offer weighed
  fine-offer a b k h u c i f =
      let l = cut_of el top a b u in
      by (eqb u a || (eqb u b || eqb l k)) (λ t. rw t f) λ t.
      let d = cost w (middle_of pts a b u) (place_at pts u) in
      by (ltb (c.gain + d) (get_or el l 0) && allowed pts n ms a b u (middle_of pts a b u))
      (λ y.
      rw (t, y) λ g. (
        (h, i),
        (
          omega (arith, ltb-true (c.gain + d) (get_or el l 0) (and_left _ _ y)),
          eqb-false _ _ (or-none (eqb u b) _ (or-none (eqb u a) _ t).1).1,
        ),
      ))
      (λ y. rw (t, y) f)

  fine-offers : (k : ℕ) (c : Best) → k < e → Fine el e n c → Fine el e n (offers w pts n ms keys el top k c)
  unfolding offers
  fine-offers k c h f = turns-below (offer w pts n ms el top (first_end (get_or keys k 0)) (second_end (get_or keys k 0)) k) (Fine el e n) n
      (λ j t i q. fine-offer _ _ k h j t i q) n 0 c (omega arith) f

  pub fine-search : Fine el e n (search w pts n ms keys e el top)
  unfolding search
  fine-search =
      turns-below (offers w pts n ms keys el top) (Fine el e n) e (λ j t i q. fine-offers j t i q) e 0 (best 0 0 0 0) (omega arith)
      (λ g. absurd (let z : ⊥ = omega arith in z))
