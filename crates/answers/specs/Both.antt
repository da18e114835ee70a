-- Both trees by one call: rules C63 to C66, whose totals come from one graph.
use Rattle.std.specs.Prelude.{List, ℕ, ℤ, pos, length}
use Rattle.lent.specs.Told.{Told, only_if}
use Rattle.net.specs.Pins.{pin_count}
use Rattle.net.specs.declared.Weighing.{Weighing}
use Rattle.checks.specs.Check.{checked}
use Rattle.room.specs.Needs.{edge_need}
use Rattle.answers.specs.Room.{if_room}
use Rattle.answers.specs.Graph.{point_count}
use Rattle.answers.specs.Terminal.{paths_total}
use Rattle.answers.specs.Refined.{laid_of, laid_answer}

-- C64, C66: how many edges of the refined tree are given, and the terminal tree's total before what the refined tree answers
abbrev pub both_answer : Weighing → List ℤ → List ℤ → ℕ × (ℤ × (ℤ × ℤ))
both_answer w pins macros = (length (laid_of w pins macros), (pos (paths_total w pins macros), (laid_answer w pins macros).1))

-- C65: fewer than 4(n + m) numbers
unfoldable pub both_given : Weighing → List ℤ → List ℤ → ℕ → Told (ℕ × (ℤ × (ℤ × ℤ)))
both_given w pins macros room = if_room (edge_need (point_count pins macros) (pin_count pins)) room (both_answer w pins macros)

-- C65: 11 to 18, then 21
unfoldable pub both_trees : Weighing → List ℤ → List ℤ → ℕ → Told (ℕ × (ℤ × (ℤ × ℤ)))
both_trees w pins macros room = only_if (checked w pins macros) (both_given w pins macros room)
