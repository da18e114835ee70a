-- A scan as a program counts it: what is passed, `take i l`, grows by the entry at which what is left, `drop i l`, begins.
-- Assumes nothing.
use mathlib.Core.Path.{◌≡◌, refl, sym, ap, ◌∙◌}
use mathlib.Core.List.{List, [], ◌∷◌, ◌++◌, append-nil}
use Prim.Native.Nat.{ℕ, zero, suc, ◌+◌}
use native.Mathlib.Numerals.{add-one}
use lib.ListN.{take, drop, take-append-drop}

module _ {A : Type 0} where
  passed : (l : List A) (i : ℕ) (x : A) (rest : List A) → drop i l ≡ x ∷ rest → take (suc i) l ≡ take i l ++ (x ∷ [])
  passed [] zero x rest e = sym (ap (take 1) (sym e))
  passed [] (suc i) x rest e = ap (take 1) e
  passed (y ∷ l) zero x rest e = ap (take 1) e
  passed (y ∷ l) (suc i) x rest e = ap (λ (r : List A). y ∷ r) (passed l i x rest e)

  pub take_next : (l : List A) (i : ℕ) (x : A) (rest : List A) → drop i l ≡ x ∷ rest → take (i + 1) l ≡ take i l ++ (x ∷ [])
  take_next l i x rest e = rw add-one (passed l i x rest e)

  pub take-end : (l : List A) (i : ℕ) → drop i l ≡ [] → take i l ≡ l
  take-end l i e = sym (append-nil (take i l)) ∙ ap (λ (r : List A). take i l ++ r) (sym e) ∙ take-append-drop i l
