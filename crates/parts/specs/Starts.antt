-- The values that a row starts with, from those of smaller masks: the least sum over the parts of the mask's number.
use Rattle.std.specs.Prelude.{Bool, true, false, ◌&&◌, List, [], ◌∷◌, map, ℕ, zero, suc, ◌+◌, ◌-◌, min, leb}
use Rattle.lists.specs.Those.{those}
use Rattle.parts.specs.Numbers.{part_of}

-- the numbers below n
unfoldable pub under : ℕ → List ℕ
under zero = []
under (suc n) = n ∷ under n

-- the least of a list, and at most the cap
unfoldable pub least : ℕ → List ℕ → ℕ
least cap [] = cap
least cap (x ∷ l) = min x (least cap l)

-- p is a part of s, neither empty nor all of it (p is below s)
unfoldable pub proper_part : ℕ → ℕ → ℕ → Bool
proper_part m s p = leb 1 p && part_of m p s

module _ (m : ℕ) (value : ℕ → ℕ → ℕ) (s v : ℕ) where
  -- what the crossing v costs with each part and the rest; value p v is that of the mask p at v
  unfoldable pub sums : List ℕ
  sums = map (λ (p : ℕ). value p v + value (s - p) v) (those (proper_part m s) (under s))

  -- the least sum so far, once p has been tried too
  unfoldable pub trying : ℕ → ℕ → ℕ
  trying p best = elim (part_of m p s) [ true ↦ min (value p v + value (s - p) v) best | false ↦ best ]
