-- Writing into lent space from its beginning: nothing written, one entry more, a longer answer over a shorter one.
-- Assumes nothing.
use mathlib.Core.Path.{◌≡◌, refl, sym, ap, ap₂, ◌∙◌}
use mathlib.Core.List.{List, [], ◌∷◌, ◌++◌, append_assoc}
use Prim.Native.Nat.{ℕ, suc, ◌+◌, ◌-◌, ◌≤◌, ◌<◌}
use native.Mathlib.Numerals.{add-one}
use native.Mathlib.Omega.{arith}
use lib.ListN.{length, drop, take, get_or, set, length-append, length-drop, take-append-drop}
use lib.Seq.{drop-append-add, drop-drop, drop-cons, set_at, append_snoc, take-append_seam}
use Rattle.lent.specs.Over.{over}

module _ {X : Type 0} where
  pub over_none : (lent : List X) → over [] lent ≡ lent
  unfolding over
  over_none lent = refl

  pub length_over : (xs lent : List X) → length xs ≤ length lent → length (over xs lent) ≡ length lent
  unfolding over
  length_over xs lent h = simp (length-append, length-drop) (omega arith)

  -- one entry stored just past those that are written
  pub over-more : (xs lent : List X) (i : ℕ) (x : X) → length xs ≡ i → i < length lent → set (over xs lent) i x ≡ over (xs ++ (x ∷ [])) lent
  unfolding over
  over-more xs lent i x e h =
      let k : drop (length xs) lent ≡ get_or lent (length xs) x ∷ drop (suc (length xs)) lent = drop-cons lent (length xs) x (omega arith) in
      let n : length (xs ++ (x ∷ [])) ≡ suc (length xs) = length-append xs (x ∷ []) ∙ omega arith in
      ap (λ (l : List X). set (xs ++ l) i x) k
      ∙ set_at xs (get_or lent (length xs) x) (drop (suc (length xs)) lent) x i e
      ∙ sym (append_snoc xs x (drop (suc (length xs)) lent))
      ∙ ap (λ (m : ℕ). (xs ++ (x ∷ [])) ++ drop m lent) (sym n)

  -- a longer answer over a shorter one
  pub over-over : (xs ys lent : List X) → length ys ≤ length xs → over xs (over ys lent) ≡ over xs lent
  unfolding over
  over-over xs ys lent h =
      let n = length xs - length ys in
      let e : length xs ≡ length ys + n = omega arith in
      ap (λ (l : List X). xs ++ l)
      (ap (λ (k : ℕ). drop k (ys ++ drop (length ys) lent)) e
      ∙ drop-append-add ys (drop (length ys) lent) n
      ∙ drop-drop n (length ys) lent
      ∙ ap (λ (k : ℕ). drop k lent) (sym e))

  -- what was written stands at the beginning
  pub take-over : (xs lent : List X) → take (length xs) (over xs lent) ≡ xs
  unfolding over
  take-over xs lent = take-append_seam xs (drop (length xs) lent)

  -- a list whose first j entries are xs and whose others are those of lent
  pub over-of : (xs l lent : List X) (j : ℕ) → length xs ≡ j → take j l ≡ xs → drop j l ≡ drop j lent → l ≡ over xs lent
  unfolding over
  over-of xs l lent j e f g =
      sym (take-append-drop j l) ∙ ap₂ (λ (a b : List X). a ++ b) f (g ∙ ap (λ (n : ℕ). drop n lent) (sym e))
