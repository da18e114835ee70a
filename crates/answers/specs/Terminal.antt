-- The terminal tree among the operations: rules C63 and C64.
-- How it is worked out stands in `terminal` (specs/Tree.antt), what it is in `rules` (specs/Terminal.antt).
use Rattle.std.specs.Prelude.{List, ℕ, ℤ, pos, length}
use Rattle.lent.specs.Told.{Told, only_if}
use Rattle.plane.specs.declared.Place.{Place}
use Rattle.net.specs.Pins.{pin_count}
use Rattle.net.specs.declared.Weighing.{Weighing}
use Rattle.net.specs.Net.{net_of}
use Rattle.checks.specs.Check.{checked}
use Rattle.room.specs.Needs.{path_need}
use Rattle.terminal.specs.Tree as terminal
use Rattle.answers.specs.Room.{if_room}

-- C64: each path in the order kept, by its bridge and its length
unfoldable pub paths_of : Weighing → List ℤ → List ℤ → List ((Place × Place) × ℕ)
paths_of w pins macros = terminal.paths_of (net_of w pins macros)

-- C64: and the total
unfoldable pub paths_total : Weighing → List ℤ → List ℤ → ℕ
paths_total w pins macros = terminal.total_of (net_of w pins macros)

-- C63: fewer than 5m numbers; otherwise how many paths, and their total
unfoldable pub terminal_given : Weighing → List ℤ → List ℤ → ℕ → Told (ℕ × ℤ)
terminal_given w pins macros room = if_room (path_need (pin_count pins)) room (length (paths_of w pins macros), pos (paths_total w pins macros))

-- C63: 11 to 18, then 21
unfoldable pub terminal_tree : Weighing → List ℤ → List ℤ → ℕ → Told (ℕ × ℤ)
terminal_tree w pins macros room = only_if (checked w pins macros) (terminal_given w pins macros room)
