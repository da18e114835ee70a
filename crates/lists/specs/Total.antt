-- The sum of a list of numbers, its greatest number, and how many are above a height.
use Rattle.std.specs.Prelude.{List, [], ◌∷◌, ℕ, ◌+◌, max, ltb, length}
use Rattle.lists.specs.Those.{those}

unfoldable pub total : List ℕ → ℕ
total [] = 0
total (x ∷ l) = x + total l

-- 0 for the empty list
unfoldable pub most : List ℕ → ℕ
most [] = 0
most (x ∷ l) = max x (most l)

unfoldable pub above : ℕ → List ℕ → ℕ
above t l = length (those (ltb t) l)
