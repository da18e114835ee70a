-- Lines in tables of numbers, and how many there may be.
use Rattle.std.specs.Prelude.{List, [], ◌∷◌, ℕ, ◌≤◌, ℤ, pos, get_or}
use Rattle.std.specs.Int.Signed.{lt_z}
use Rattle.lent.specs.Inserted.{Inserted}
use Rattle.lines.specs.declared.Grid.{Grid}
use Rattle.lines.specs.Bounds.{line_bound}

-- a line as one number of a table
abbrev pub line_numbers : ℤ → List ℤ
line_numbers z = z ∷ []

abbrev pub line_from : List ℤ → ℕ → ℤ
line_from s k = get_or s k (pos 0)

-- lines put into a sorted table
abbrev pub InsertedLines : List ℤ → ℕ → List ℤ → List ℤ → ℕ → Type 0
InsertedLines = Inserted line_numbers line_from 1 lt_z

-- no more lines than the tables have room for
pub record FewLines (g : Grid) : Type 0 where
  pub across : g.across ≤ line_bound
  pub along : g.along ≤ line_bound
