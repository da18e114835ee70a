-- Entries of a fixed width in a list of numbers.
use Rattle.std.specs.Prelude.{◌≡◌, List, [], ◌∷◌, ◌++◌, ℕ, zero, suc, ◌+◌, ◌≤◌, length, take, drop}

-- entries one after the other, each as its numbers
unfoldable pub flat : {A B : Type 0} → (B → List A) → List B → List A
flat numbers [] = []
flat numbers (b ∷ bs) = numbers b ++ flat numbers bs

-- n entries read from the number k on, w numbers each; `from` reads the one that begins at a number
unfoldable pub entries_from : {A B : Type 0} → (List A → ℕ → B) → ℕ → List A → ℕ → ℕ → List B
entries_from from w s k zero = []
entries_from from w s k (suc n) = from s k ∷ entries_from from w s (k + w) n

-- the first n entries
abbrev pub entries : {A B : Type 0} → (List A → ℕ → B) → ℕ → List A → ℕ → List B
entries from w s n = entries_from from w s 0 n

-- how entries are written and read: as many numbers for each, and reading and writing undo each other
pub record Width {A B : Type 0} (numbers : B → List A) (from : List A → ℕ → B) (w : ℕ) : Type 0 where
  pub each : (b : B) → length (numbers b) ≡ w
  pub back : (s : List A) (b : B) (t : List A) → from (s ++ (numbers b ++ t)) (length s) ≡ b
  pub forth : (s : List A) (k : ℕ) → k + w ≤ length s → numbers (from s k) ≡ take w (drop k s)
