-- The lower bound among the operations: rules C89 and C90. What it is stands in `bound` (specs/Bound.antt), which fixes it by what it
-- means: so what is answered is said of any number n, and the contract names the one given.
use Rattle.std.specs.Prelude.{Bool, cond, ◌||◌, List, ℕ, ltb, ℤ}
use Rattle.lent.specs.Told.{Told, refused, given, only_if}
use Rattle.net.specs.declared.Weighing.{Weighing}
use Rattle.checks.specs.Check.{checked}
use Rattle.sweeps.specs.Tables.{wide_crossings, arc_bound}

-- C89: fewer than 589,824 numbers of work of 32 bits, or fewer than 147,456 of 64
unfoldable pub bound_room_short : ℕ → ℕ → Bool
bound_room_short left rows = ltb left arc_bound || ltb rows wide_crossings

-- C89: 21; otherwise the bound
unfoldable pub bound_given : Weighing → List ℤ → List ℤ → ℕ → ℕ → ℕ → Told ℕ
bound_given w pins macros left rows n = cond (bound_room_short left rows) (refused 21) (given n)

-- C89: 11 to 18, then 21
unfoldable pub lower_bound : Weighing → List ℤ → List ℤ → ℕ → ℕ → ℕ → Told ℕ
lower_bound w pins macros left rows n = only_if (checked w pins macros) (bound_given w pins macros left rows n)
