-- Sums over the entries of a table: by a number for each entry, they say which entries a table has, how often, how many they are and how
-- long together, all at once.
use Rattle.std.specs.Prelude.{ℕ, zero, suc, ◌+◌, List, get_or}

-- the sum of f over the numbers below n
unfoldable pub below : (ℕ → ℕ) → ℕ → ℕ
below f zero = 0
below f (suc n) = f n + below f n

-- the sum of g over the first n entries
abbrev pub sum_over : (ℕ → ℕ) → List ℕ → ℕ → ℕ
sum_over g xs n = below (λ i. g (get_or xs i 0)) n
