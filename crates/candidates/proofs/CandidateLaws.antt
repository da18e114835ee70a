-- Laws of the search for the best candidate.
-- Assumes nothing.
use mathlib.Core.Path.{◌≡◌, refl, sym, ap, ◌∙◌}
use mathlib.Core.Bool.{Bool, true, false, ◌&&◌, ◌||◌}
use mathlib.Core.List.{List}
use Prim.Native.Nat.{ℕ, ◌+◌, ◌-◌, ◌≤◌, ◌<◌}
use native.Mathlib.Omega.{arith}
use lib.Dec.{ltb, eqb}
use lib.IntN.{ℤ}
use lib.ListN.{get_or}
use borrow.Author.Tests.{lt-ltb, le-ltb, ltb-false}
use Rattle.lists.proofs.TestLaws.{by}
use Rattle.plane.specs.declared.Place.{Place}
use Rattle.plane.specs.declared.Macro.{Macro}
use Rattle.plane.specs.declared.Weights.{Weights}
use Rattle.candidates.specs.declared.Best.{Best}
use Rattle.plane.specs.Cost.{cost}
use Rattle.plane.specs.Middle.{middle_place}
use Rattle.plane.specs.Flat.{place_at}
use Rattle.tree.specs.Table.{Low}
use Rattle.longest.specs.Longest.{cut_of}
use Rattle.near.specs.Box.{box_of, box_cost}
use Rattle.near.proofs.BoxLaws.{box-cost}
use Rattle.triples.specs.Triple.{allowed, may_gain}
use Rattle.candidates.specs.Candidate.{best, chosen, weighed, offer}

and-false : (a : Bool) → (a && false) ≡ false
and-false true = refl
and-false false = refl

-- the places of a candidate and what metal from s to u costs, by their names
pub record Spots (w : Weights) (pts : List ℤ) (a b u : ℕ) (p q r s : Place) (d : ℕ) : Type 0 where
  pub one : p ≡ place_at pts a
  pub two : q ≡ place_at pts b
  pub three : r ≡ place_at pts u
  pub mid : s ≡ middle_place p q r
  pub far : d ≡ cost w s r

module _ (w : Weights) (pts : List ℤ) (n : ℕ) (ms : List Macro) (a b k u l x : ℕ) (c : Best) where
  named : (p q r s : Place) (d : ℕ) → Spots w pts a b u p q r s d
      → weighed w pts n ms a b k u l x c ≡ chosen (ltb (c.gain + d) x && allowed pts n ms a b u s) (best (x - d) k u l) c
  unfolding weighed
  named p q r s d h = rw (h.far, h.mid, h.one, h.two, h.three) refl

  module _ (p q r s : Place) (d : ℕ) (h : Spots w pts a b u p q r s d) where
    pub weigh-low : x ≤ c.gain + d → c ≡ weighed w pts n ms a b k u l x c
    weigh-low i = sym (named p q r s d h ∙ rw (le-ltb _ _ i) refl)

    pub weigh-no : allowed pts n ms a b u s ≡ false → c ≡ weighed w pts n ms a b k u l x c
    weigh-no e = sym (named p q r s d h ∙ rw (e, and-false (ltb (c.gain + d) x)) refl)

    pub weigh-yes : (g : ℕ) → g ≡ x - d → c.gain + d < x → allowed pts n ms a b u s ≡ true
        → best g k u l ≡ weighed w pts n ms a b k u l x c
    weigh-yes g f i e = sym (named p q r s d h ∙ rw (lt-ltb _ _ i, e, f) refl)

module _ (w : Weights) (pts : List ℤ) (n : ℕ) (ms : List Macro) (el top : List ℕ) (a b k u l : ℕ) (c : Best)
    (e : l ≡ cut_of el top a b u) where
  pub offer-none : (eqb u a || (eqb u b || eqb l k)) ≡ true → c ≡ offer w pts n ms el top a b k u c
  unfolding offer
  offer-none h = rw (← e, h) refl

  module _ (d : (eqb u a || (eqb u b || eqb l k)) ≡ false) where
    pub offer-is : weighed w pts n ms a b k u l (get_or el l 0) c ≡ offer w pts n ms el top a b k u c
    unfolding offer
    offer-is = rw (← e, d) refl

-- What is skipped

-- a point so far from the box of an edge that L is not long enough, or no edge is
module _ (w : Weights) (pts : List ℤ) (n : ℕ) (ms : List Macro) (el top : List ℕ) (a b k u : ℕ) (c : Best)
    (m : Macro) (i : m ≡ box_of (place_at pts a) (place_at pts b)) (r : Place) (h : r ≡ place_at pts u) where
  far-low : (l x : ℕ) → get_or el l 0 ≤ x → (t : Bool) → t ≡ may_gain w m r 0 c.gain x → t ≡ false →
      c ≡ weighed w pts n ms a b k u l (get_or el l 0) c
  unfolding may_gain
  far-low l x v t j z =
      let p = place_at pts a in
      let q = place_at pts b in
      let d : box_cost w m r ≡ cost w (middle_place p q r) r = ap (λ (o : Macro). box_cost w o r) i ∙ box-cost w p q r in
      let y : x ≤ c.gain + (box_cost w m r + 0) = ltb-false _ _ (sym j ∙ z) in
      weigh-low w pts n ms a b k u l (get_or el l 0) c p q r (middle_place p q r) (cost w (middle_place p q r) r)
      (record { one = refl; two = refl; three = h; mid = refl; far = refl }) (omega (arith, v, y, d))

  pub offer-near : (l : ℕ) → l ≡ cut_of el top a b u → (eqb u a || (eqb u b || eqb l k)) ≡ false →
      (t : Bool) → t ≡ may_gain w m r 0 c.gain (get_or el l 0) → t ≡ false → c ≡ offer w pts n ms el top a b k u c
  offer-near l e o t j z = far-low l (get_or el l 0) (omega arith) t j z ∙ offer-is w pts n ms el top a b k u l c e o

  pub offer-far : (x : ℕ) → Low x el → (t : Bool) → t ≡ may_gain w m r 0 c.gain x → t ≡ false →
      c ≡ offer w pts n ms el top a b k u c
  offer-far x low t j z =
      let l = cut_of el top a b u in
      by (eqb u a || (eqb u b || eqb l k))
      (λ e. offer-none w pts n ms el top a b k u l c refl e)
      (λ e. far-low l x (low.low l) t j z ∙ offer-is w pts n ms el top a b k u l c refl e)
