-- Refined trees of worked nets, by computing the definitions: each from the union of its kept paths.
-- Assumes nothing.
use mathlib.Core.Path.{◌≡◌, refl}
use mathlib.Core.List.{[], ◌∷◌}
use Prim.Native.Nat.{ℕ}
use lib.IntN.{pos}
use Rattle.plane.specs.declared.Place.{Place}
use Rattle.plane.specs.Place.{place}
use Rattle.plane.specs.Macro.{macro}
use Rattle.tree.specs.Table.{key}
use Rattle.refiner.proofs.WorkedTrees.{refined_of}

abbrev at : ℕ → ℕ → Place
at x y = place (pos x) (pos y)

pub record Table : Type 0 where
  -- E1: no edge, total 0
  pub one-pin : refined_of [] (at 5 5 ∷ []) (at 5 5 ∷ []) [] ≡ ([], 0)
  -- E4: total 7
  pub three-pins :
      refined_of [] (at 0 0 ∷ at 4 0 ∷ at 2 3 ∷ []) (at 0 0 ∷ at 2 3 ∷ at 4 0 ∷ []) (key 0 1 ∷ key 0 2 ∷ [])
      ≡ ((at 0 0, at 2 0) ∷ (at 2 0, at 2 3) ∷ (at 2 0, at 4 0) ∷ [], 7)
  -- two rounds; the second puts s on an end of the edge
  pub two-rounds :
      refined_of [] (at 0 1 ∷ at 1 0 ∷ at 2 1 ∷ at 1 2 ∷ []) (at 0 1 ∷ at 1 0 ∷ at 1 2 ∷ at 2 1 ∷ []) (key 0 1 ∷ key 0 2 ∷ key 0 3 ∷ [])
      ≡ ((at 0 1, at 1 1) ∷ (at 1 0, at 1 1) ∷ (at 1 1, at 1 2) ∷ (at 1 1, at 2 1) ∷ [], 4)
  -- four candidates with the same gain: the first is taken
  pub ties :
      refined_of []
      (at 0 0 ∷ at 0 4 ∷ at 4 0 ∷ at 4 4 ∷ at 2 2 ∷ [])
      (at 0 0 ∷ at 0 4 ∷ at 2 2 ∷ at 4 0 ∷ at 4 4 ∷ [])
      (key 0 1 ∷ key 0 2 ∷ key 0 3 ∷ key 1 4 ∷ [])
      ≡ ((at 0 0, at 0 2) ∷ (at 0 0, at 4 0) ∷ (at 0 2, at 0 4) ∷ (at 0 2, at 2 2) ∷ (at 0 4, at 4 4) ∷ [], 14)
  -- a macro's corner that is left with a single edge goes
  pub bare-corner :
      refined_of (macro (pos 0) (pos 0) (pos 1) (pos 2) ∷ [])
      (at 0 0 ∷ at 1 3 ∷ at 3 1 ∷ [])
      (at 0 0 ∷ at 0 2 ∷ at 1 0 ∷ at 1 2 ∷ at 1 3 ∷ at 3 1 ∷ [])
      (key 0 1 ∷ key 0 2 ∷ key 1 3 ∷ key 2 5 ∷ key 3 4 ∷ [])
      ≡ ((at 0 0, at 1 0) ∷ (at 1 0, at 1 1) ∷ (at 1 1, at 1 2) ∷ (at 1 1, at 3 1) ∷ (at 1 2, at 1 3) ∷ [], 6)
  -- a candidate that is dropped would win; without it the answer is another
  pub drops :
      refined_of (macro (pos 0) (pos 11) (pos 4) (pos 18) ∷ macro (pos 4) (pos 11) (pos 9) (pos 18) ∷ [])
      (at 0 9 ∷ at 2 11 ∷ at 3 18 ∷ at 4 10 ∷ at 9 15 ∷ at 13 11 ∷ [])
      (at 0 9 ∷ at 2 11 ∷ at 3 18 ∷ at 4 10 ∷ at 4 11 ∷ at 4 18 ∷ at 9 11 ∷ at 9 15 ∷ at 9 18 ∷ at 13 11 ∷ [])
      (key 0 1 ∷ key 1 3 ∷ key 2 5 ∷ key 3 4 ∷ key 4 5 ∷ key 5 8 ∷ key 6 7 ∷ key 6 9 ∷ key 7 8 ∷ [])
      ≡ (
        (at 0 9, at 2 10)
            ∷ (at 2 10, at 2 11)
            ∷ (at 2 10, at 4 10)
            ∷ (at 3 18, at 4 18)
            ∷ (at 4 10, at 4 11)
            ∷ (at 4 11, at 9 11)
            ∷ (at 4 18, at 9 18)
            ∷ (at 9 11, at 9 15)
            ∷ (at 9 11, at 13 11)
            ∷ (at 9 15, at 9 18)
            ∷ [],
        29,
      )

pub worked-trees : Table
unfolding refined_of
worked-trees = record { one-pin = refl; three-pins = refl; two-rounds = refl; ties = refl; bare-corner = refl; drops = refl }
