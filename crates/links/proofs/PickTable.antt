-- The table of picks, a vertex at a time: four stores side by side, read back by quadrant.
-- Assumes nothing.
use mathlib.Core.Path.{◌≡◌, refl, sym, ap, ◌∙◌}
use mathlib.Core.List.{List, [], ◌∷◌}
use Prim.Native.Nat.{ℕ, zero, suc, ◌+◌, ◌*◌, ◌≤◌, ◌<◌}
use native.Mathlib.Nat.{add-zero}
use native.Mathlib.Omega.{arith}
use borrow.Author.Tests.{ltb-true, ltb-false}
use lib.Dec.{ltb}
use lib.IntN.{ℤ}
use borrow.Rule.Slice.PartMut.{put_mid}
use lib.ListN.{length, get_or, set, length-set, take, drop}
use lib.Seq.{drop-drop, sets, get_or-set_same, get_or-set_other}
use Rattle.std.proofs.Common.{append_assoc}
use Rattle.std.proofs.lemmas.List.Edits.{sets-eq}
use Rattle.lists.proofs.TestLaws.{by}
use Rattle.plane.specs.declared.Macro.{Macro}
use Rattle.plane.specs.declared.Weights.{Weights}
use Rattle.plane.specs.Flat.{places_of, place_at}
use Rattle.net.specs.Bounds.{point_bound, edge_bound}
use Rattle.picks.specs.declared.Quadrant.{Quadrant}
use Rattle.picks.specs.declared.Quadrant.TheVariants.{First, Second, Third, Fourth}
use Rattle.picks.specs.declared.TwoPicks.{TwoPicks}
use Rattle.picks.specs.Pick.{pick}
use Rattle.picks.specs.Pass.{vertex_picked}
use Rattle.links.specs.Links.{column, four_picks, PicksHeld}

-- Stores one after the other

module _ {X : Type 0} where
  pub length-sets : (l : List X) (i : ℕ) (xs : List X) → length (sets l i xs) ≡ length l
  length-sets l i [] = refl
  length-sets l i (x ∷ xs) = length-sets (set l i x) (suc i) xs ∙ length-set l i x

  -- what stands before them stays, and they are read back
  sets-before : (l : List X) (i : ℕ) (xs : List X) (j : ℕ) (d : X) → j < i → get_or (sets l i xs) j d ≡ get_or l j d
  sets-before l i [] j d h = refl
  sets-before l i (x ∷ xs) j d h = sets-before (set l i x) (suc i) xs j d (omega arith) ∙ get_or-set_other l i j x d (λ e. omega arith)

  sets-at : (l : List X) (i : ℕ) (xs : List X) (c : ℕ) (d : X) → c < length xs → i + length xs ≤ length l
      → get_or (sets l i xs) (i + c) d ≡ get_or xs c d
  sets-at l i [] c d h r = absurd (let z : ⊥ = omega arith in z)
  sets-at l i (x ∷ xs) zero d h r =
      ap (λ (k : ℕ). get_or (sets (set l i x) (suc i) xs) k d) (add-zero i)
      ∙ sets-before (set l i x) (suc i) xs i d (omega arith)
      ∙ get_or-set_same l i x d (omega arith)
  sets-at l i (x ∷ xs) (suc c) d h r =
      let n : i + suc c ≡ suc i + c = omega arith in
      ap (λ (k : ℕ). get_or (sets (set l i x) (suc i) xs) k d) n
      ∙ sets-at (set l i x) (suc i) xs c d (omega arith) (omega (arith, length-set l i x))

-- copied into a part, they are stored there
pub put_mid-sets : (l vs : List ℕ) (i k : ℕ) → k ≡ length vs → i + length vs ≤ length l → put_mid i k l vs ≡ sets l i vs
put_mid-sets l vs i k e h =
    cc (sets-eq vs l i h, append_assoc (take i l) vs (drop k (drop i l)), drop-drop k i l, e)

-- The table of picks

pub column-small : (q : Quadrant) → column q < 4
unfolding column
column-small First = omega arith
column-small Second = omega arith
column-small Third = omega arith
column-small Fourth = omega arith

module _ (w : Weights) (ms : List Macro) (s : List ℤ) where
  pub held_none : (picked : List ℕ) → PicksHeld w ms s picked 0
  held_none picked = record { held = λ k h q. absurd (let z : ⊥ = omega arith in z) }

  module _ (k : ℕ) (above below : TwoPicks)
      (first : vertex_picked s above.right ≡ pick w ms First (place_at s k) (places_of s))
      (second : vertex_picked s above.left ≡ pick w ms Second (place_at s k) (places_of s))
      (third : vertex_picked s below.left ≡ pick w ms Third (place_at s k) (places_of s))
      (fourth : vertex_picked s below.right ≡ pick w ms Fourth (place_at s k) (places_of s)) where
    fresh : (q : Quadrant) → vertex_picked s (get_or (four_picks above below) (column q) 0) ≡ pick w ms q (place_at s k) (places_of s)
    unfolding column
    fresh First = first
    fresh Second = second
    fresh Third = third
    fresh Fourth = fourth

    pub held_more : (picked : List ℕ) → length picked ≡ edge_bound → k < point_bound → PicksHeld w ms s picked k
        → PicksHeld w ms s (sets picked (k * 4) (four_picks above below)) (k + 1)
    held_more picked e l p = record {
      held = λ j h q.
          by (ltb j k)
          (λ t.
          ap (vertex_picked s)
          (sets-before picked (k * 4) (four_picks above below) (j * 4 + column q) 0 (omega (arith, ltb-true j k t, column-small q)))
          ∙ p.held j (ltb-true j k t) q)
          (λ t.
          let n : j ≡ k = omega (arith, h, ltb-false j k t) in
          ap (λ (i : ℕ). vertex_picked s (get_or (sets picked (k * 4) (four_picks above below)) (i * 4 + column q) 0)) n
          ∙ ap (vertex_picked s) (sets-at picked (k * 4) (four_picks above below) (column q) 0 (column-small q) (omega (arith, e, l)))
          ∙ fresh q
          ∙ ap (λ (i : ℕ). pick w ms q (place_at s i) (places_of s)) (sym n));
    }
