-- A state that goes through the numbers below n.
use Rattle.std.specs.Prelude.{List, ℕ, zero, suc, ◌<◌, get_or, set}
use Rattle.straight.specs.Table.{straight_bound}

unfoldable pub up_to : {S : Type 0} → (ℕ → S → S) → ℕ → S → S
up_to f zero s = s
up_to f (suc n) s = f n (up_to f n s)

-- an entry of a table through a function, and the first n of them
abbrev pub set_by : (ℕ → ℕ → ℕ) → ℕ → List ℕ → List ℕ
set_by f i t = set t i (f i (get_or t i 0))

abbrev pub set_up_to : (ℕ → ℕ → ℕ) → ℕ → List ℕ → List ℕ
set_up_to f n t = up_to (set_by f) n t

-- every entry is a number of a point
pub record Numbers (t : List ℕ) : Type 0 where
  pub number : (i : ℕ) → get_or t i 0 < straight_bound
