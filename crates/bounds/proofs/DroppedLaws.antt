-- R6: when a candidate is dropped, and when not.
-- Assumes nothing.
use mathlib.Core.Path.{◌≡◌, sym, ap, ◌∙◌}
use mathlib.Core.Bool.{true, false, not, ◌||◌}
use mathlib.Core.List.{List}
use Prim.Native.Nat.{ℕ, ◌<◌}
use native.Mathlib.Omega.{arith}
use lib.Dec.{ltb, eqb}
use lib.IntN.{ℤ}
use borrow.Author.Tests.{ltb-true, ltb-false, eqb-false, ne_eqb}
use Rattle.lists.specs.Turns.{seek}
use Rattle.lists.proofs.TestLaws.{by, differ, and_left, and_right, and_both, or-none, or-neither, not-true}
use Rattle.plane.specs.declared.Place.{Place}
use Rattle.plane.specs.Place.{same_place}
use Rattle.plane.specs.Flat.{place_at}
use Rattle.plane.proofs.PlaceLaws.{same_true, same_refl}
use Rattle.triples.specs.Triple.{taken, dropped}
use Rattle.exchanges.proofs.OpenedLaws.{seek-before, seek_hit}

-- R6: a point other than a, b and u stands at s
module _ (pts : List ℤ) (n a b u : ℕ) (s : Place) where
  abbrev pub Other : ℕ → Type 0
  Other i = ((i ≡ a → ⊥) × ((i ≡ b → ⊥) × (i ≡ u → ⊥))) × (s ≡ place_at pts i)

  taken_yes : (i : ℕ) → Other i → taken pts a b u s i ≡ true
  unfolding taken
  taken_yes i h =
      and_both (not (eqb i a || (eqb i b || eqb i u))) _
      (ap not (or-neither _ _ (ne_eqb i a h.0.0) (or-neither _ _ (ne_eqb i b h.0.1.0) (ne_eqb i u h.0.1.1))))
      (ap (same_place s) (sym h.1) ∙ same_refl s)

  taken_is : (i : ℕ) → taken pts a b u s i ≡ true → Other i
  unfolding taken
  taken_is i t =
      let p = or-none (eqb i a) (eqb i b || eqb i u) (not-true _ (and_left _ _ t)) in
      let q = or-none (eqb i b) (eqb i u) p.1 in (
        (eqb-false i a p.0, (eqb-false i b q.0, eqb-false i u q.1)),
        same_true _ _ (and_right (not (eqb i a || (eqb i b || eqb i u))) (same_place s (place_at pts i)) t),
      )

  -- a candidate is not dropped where it is no such place
  pub not-dropped : ((i : ℕ) → i < n → Other i → ⊥) → dropped pts n a b u s ≡ false
  unfolding dropped
  not-dropped f =
      let i = seek (taken pts a b u s) 0 n in
      by (ltb i n)
      (λ t. absurd (f i (ltb-true i n t) (taken_is i (seek_hit (taken pts a b u s) n 0 (omega (arith, ltb-true i n t))))))
      (λ t. t)

  pub dropped-not : dropped pts n a b u s ≡ false → (i : ℕ) → i < n → Other i → ⊥
  unfolding dropped
  dropped-not t i h q =
      differ (taken_yes i q) (seek-before (taken pts a b u s) n 0 i (omega arith)
      (omega (arith, ltb-false (seek (taken pts a b u s) 0 n) n t)))
