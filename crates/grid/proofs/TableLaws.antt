-- Tables written one number after the other: costs of segments, and rows of the answer.
-- Assumes nothing.
use mathlib.Core.Path.{◌≡◌, refl, ap, ◌∙◌}
use mathlib.Core.List.{List, [], ◌∷◌, ◌++◌, map, map-append}
use Prim.Native.Nat.{ℕ, suc, ◌+◌, ◌≤◌, ◌<◌}
use native.Mathlib.Decide.{ℕ_discrete}
use native.Mathlib.Numerals.{add-one}
use native.Mathlib.Omega.{arith}
use lib.IntN.{ℤ, pos}
use lib.ListN.{length, get_or, set, take, length-map}
use lib.Seq.{sets, take-suc, length-take-le, get_or-set_same, get_or-set_other}
use Rattle.plane.specs.declared.Macro.{Macro}
use Rattle.plane.specs.declared.Weights.{Weights}
use Rattle.lines.specs.declared.Grid.{Grid}
use Rattle.grid.specs.Rows.{at}
use Rattle.grid.specs.Tables.{edge_cost, CostsTo, picked}

pub costs-none : (w : Weights) (ms : List Macro) (g : Grid) (xs ys : List ℤ) (t : List ℕ) → CostsTo w ms g xs ys 0 t
costs-none w ms g xs ys t = record { each = λ k h. let z : ⊥ = omega (arith, h) in absurd z }

-- one cost more
pub costs-more : (w : Weights) (ms : List Macro) (g : Grid) (xs ys : List ℤ) (k : ℕ) (t : List ℕ) (x : ℕ) → CostsTo w ms g xs ys k t →
    k < length t → x ≡ edge_cost w ms g xs ys k → CostsTo w ms g xs ys (k + 1) (set t k x)
costs-more w ms g xs ys k t x c h e = record { each = λ j i. pick j i (ℕ_discrete j k) }
  where
    pick : (j : ℕ) → j < k + 1 → Dec (j ≡ k) → get_or (set t k x) j 0 ≡ edge_cost w ms g xs ys j
    pick j i (yes n) = rw n (get_or-set_same t k x 0 h ∙ e)
    pick j i (no n) = get_or-set_other t k j x 0 n ∙ c.each j (omega (arith, i, n))

pub costs-end : (w : Weights) (ms : List Macro) (g : Grid) (xs ys : List ℤ) (k n : ℕ) (t : List ℕ) → CostsTo w ms g xs ys k t → n ≤ k →
    CostsTo w ms g xs ys n t
costs-end w ms g xs ys k n t c h = record { each = λ j i. c.each j (omega (arith, h, i)) }

-- one number more at the end of a run of stores
sets_more : {X : Type 0} (v t : List X) (k : ℕ) (x : X) → set (sets t k v) (k + length v) x ≡ sets t k (v ++ (x ∷ []))
sets_more [] t k x = ap (λ (n : ℕ). set t n x) (let z : k + 0 ≡ k = omega arith in z)
sets_more (y ∷ v) t k x =
    ap (λ (n : ℕ). set (sets (set t k y) (suc k) v) n x) (let z : k + suc (length v) ≡ suc k + length v = omega arith in z)
    ∙ sets_more v (set t k y) (suc k) x

module _ (row numbers : List ℕ) (t : List ℤ) (k : ℕ) where
  abbrev row_to : ℕ → List ℤ
  row_to j = map pos (picked row (take j numbers))

  row_more : (j : ℕ) → j < length numbers → row_to (j + 1) ≡ row_to j ++ (pos (at row (get_or numbers j 0)) ∷ [])
  unfolding picked
  row_more j h =
      ap (λ (l : List ℕ). map pos (map (at row) l)) (ap (λ (n : ℕ). take n numbers) (add-one j) ∙ take-suc numbers j 0 h)
      ∙ ap (map pos) (map-append (at row) (take j numbers) (get_or numbers j 0 ∷ []))
      ∙ map-append pos (map (at row) (take j numbers)) (at row (get_or numbers j 0) ∷ [])

  row-length : (j : ℕ) → j ≤ length numbers → length (row_to j) ≡ j
  unfolding picked
  row-length j h = length-map (map (at row) (take j numbers)) pos ∙ length-map (take j numbers) (at row) ∙ length-take-le j numbers h

  pub put-more : (j : ℕ) (u : List ℤ) (z : ℤ) → u ≡ sets t k (row_to j) → j < length numbers → z ≡ pos (at row (get_or numbers j 0)) →
      set u (k + j) z ≡ sets t k (row_to (j + 1))
  put-more j u z e h f =
      let n : k + length (row_to j) ≡ k + j = omega (arith, row-length j (omega (arith, h))) in
      rw (e, f, row_more j h, ← n) (sets_more (row_to j) t k (pos (at row (get_or numbers j 0))))

  pub put-none : t ≡ sets t k (row_to 0)
  unfolding picked
  put-none = refl

  pub put-end : (j m : ℕ) (u : List ℤ) → j ≤ m → m ≤ j → u ≡ sets t k (row_to j) → u ≡ sets t k (row_to m)
  put-end j m u h i e = let n : j ≡ m = omega (arith, h, i) in e ∙ ap (λ (n : ℕ). sets t k (row_to n)) n
