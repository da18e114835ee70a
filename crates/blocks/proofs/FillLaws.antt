-- A table filled entry by entry, in the order of a list: one entry more, and all of them; and the parts of such a table.
-- Assumes nothing.
use Rattle.std.proofs.Common.{◌≡◌, ℕ, zero, suc, ◌+◌, ◌-◌, ◌*◌, ◌≤◌, List, [], ◌∷◌, ◌++◌, map, length, take, drop, sym, refl, ap, ◌∙◌, ap₂, append-nil, arith, length-drop, drop_of_length-le, length-take}
use lib.Seq.{sets}
use Rattle.lists.proofs.ScanLaws.{take_next, take-end}
use Rattle.lent.specs.Over.{over}
use Rattle.lent.specs.Entries.{flat, Width}
use Rattle.lent.proofs.EntryTable.{entry_more}
use Rattle.lent.proofs.OverLaws.{length_over, take-over}

module _ {A B : Type 0} (numbers : B → List A) (from : List A → ℕ → B) (w : ℕ) (wide : Width numbers from w) (xs : List B) where
  -- how long what was passed is, where something is left
  passed_length : (i : ℕ) (x : B) (rest : List B) → drop i xs ≡ x ∷ rest → length (take i xs) ≡ i
  passed_length i x rest e = length-take i xs ∙ omega (arith, length-drop i xs, ap length e)

  pub fill_more : (i : ℕ) (x : B) (rest : List B) (table lent : List A) → drop i xs ≡ x ∷ rest
      → table ≡ over (flat numbers (take i xs)) lent → i * w + w ≤ length lent
      → sets table (i * w) (numbers x) ≡ over (flat numbers (take (i + 1) xs)) lent
  fill_more i x rest table lent e t h =
      ap (λ (l : List A). sets l (i * w) (numbers x)) t
      ∙ entry_more numbers from w wide (take i xs) x lent i (passed_length i x rest e) h
      ∙ ap (λ (l : List B). over (flat numbers l) lent) (sym (take_next xs i x rest e))

  pub fill-all : (i : ℕ) (table lent : List A) → drop i xs ≡ [] → table ≡ over (flat numbers (take i xs)) lent
      → table ≡ over (flat numbers xs) lent
  fill-all i table lent e t = t ∙ ap (λ (l : List B). over (flat numbers l) lent) (take-end xs i e)

-- entries made of the entries that are left
pub map-drop : {A B : Type 0} (f : A → B) (i : ℕ) (xs : List A) → map f (drop i xs) ≡ drop i (map f xs)
map-drop f zero xs = refl
map-drop f (suc i) [] = refl
map-drop f (suc i) (x ∷ xs) = map-drop f i xs

-- Parts of a table

-- the first n entries of a table that xs was written into
pub front-of-over : {X : Type 0} (xs l lent : List X) (n : ℕ) → l ≡ over xs lent → length xs ≡ n → take n l ≡ xs
front-of-over xs l lent n e f = ap₂ take (sym f) e ∙ take-over xs lent

-- as a part that begins at 0
pub part-of-over : {X : Type 0} (xs l lent : List X) (n : ℕ) → l ≡ over xs lent → length xs ≡ n → take (n - 0) l ≡ xs
part-of-over xs l lent n e f = front-of-over xs l lent (n - 0) e (omega arith)

-- and the table is as long as it was
pub over-long : {X : Type 0} (xs l lent : List X) (n : ℕ) → l ≡ over xs lent → length xs ≤ n → length lent ≡ n → length l ≡ n
over-long xs l lent n e h f = ap length e ∙ length_over xs lent (omega arith) ∙ f

-- a list over one of its length
pub over-full : {X : Type 0} (xs lent : List X) → length lent ≤ length xs → over xs lent ≡ xs
unfolding over
over-full xs lent h = ap (λ (l : _). xs ++ l) (drop_of_length-le lent h) ∙ append-nil xs
