-- The best tree among the operations: rules C41, C87 and C88. What it is stands in `best` (specs/Tree.antt). Which tree is given, where
-- several cost the same, is left to the program (L12): so what is answered is said of any tree T, and the contract names the one given.
use Rattle.std.specs.Prelude.{Bool, cond, ◌||◌, List, ℕ, ◌+◌, ◌*◌, ltb, ℤ, length}
use Rattle.lent.specs.Told.{Told, refused, given, only_if}
use Rattle.net.specs.Pins.{pin_count, macro_count}
use Rattle.net.specs.declared.Weighing.{Weighing}
use Rattle.checks.specs.Check.{checked}
use Rattle.lines.specs.Bounds.{grid_macros}
use Rattle.lines.specs.Edges.{Edge}
use Rattle.parts.specs.Bounds.{best_pins, work_bound}
use Rattle.answers.specs.Bought.{sums_of}

-- C41: more than 5 pins, or more than 16 macros
unfoldable pub above_best : List ℤ → List ℤ → Bool
above_best pins macros = ltb best_pins (pin_count pins) || ltb grid_macros (macro_count macros)

-- C87: four numbers for each crossing that a net of m pins and k macros can have, 4(m + 2k)²
abbrev pub best_numbers : List ℤ → List ℤ → ℕ
best_numbers pins macros = (pin_count pins + macro_count macros * 2) * (pin_count pins + macro_count macros * 2) * 4

-- C87: fewer than 65,536 numbers of work, or fewer than these for the edges
unfoldable pub best_room_short : ℕ → ℕ → ℕ → Bool
best_room_short need work room = ltb work work_bound || ltb room need

-- C88: how many edges the tree T has, what they cost, and their metal
abbrev pub best_answer : Weighing → List ℤ → List ℤ → List Edge → ℕ × (ℤ × ℤ)
best_answer w pins macros T = (length T, sums_of w pins macros T)

-- C87: 41, then 21; otherwise what is said of the tree
unfoldable pub best_given : Weighing → List ℤ → List ℤ → ℕ → ℕ → List Edge → Told (ℕ × (ℤ × ℤ))
best_given w pins macros work room T =
    cond (above_best pins macros) (refused 41)
    (cond (best_room_short (best_numbers pins macros) work room) (refused 21) (given (best_answer w pins macros T)))

-- C87: 11 to 18, then 41, then 21
unfoldable pub best_tree : Weighing → List ℤ → List ℤ → ℕ → ℕ → List Edge → Told (ℕ × (ℤ × ℤ))
best_tree w pins macros work room T = only_if (checked w pins macros) (best_given w pins macros work room T)
