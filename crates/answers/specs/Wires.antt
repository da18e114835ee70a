-- Wires among the operations: rules C67 and C68.
use Rattle.std.specs.Prelude.{List, ℕ, ℤ, length}
use Rattle.lent.specs.Told.{Told, only_if}
use Rattle.plane.specs.declared.Place.{Place}
use Rattle.net.specs.Pins.{pin_count}
use Rattle.net.specs.declared.Weighing.{Weighing}
use Rattle.checks.specs.Check.{checked}
use Rattle.room.specs.Needs.{wire_need}
use Rattle.refined.specs.Wires.{wires}
use Rattle.answers.specs.Room.{if_room}
use Rattle.answers.specs.Graph.{point_count}
use Rattle.answers.specs.Refined.{laid_of}

-- W1, W2: edge after edge in order, first the horizontal wire, then the vertical one
abbrev pub wires_of : Weighing → List ℤ → List ℤ → List (Place × Place)
wires_of w pins macros = wires (laid_of w pins macros)

-- C67: fewer than 8(n + m) numbers
unfoldable pub wires_given : Weighing → List ℤ → List ℤ → ℕ → Told ℕ
wires_given w pins macros room = if_room (wire_need (point_count pins macros) (pin_count pins)) room (length (wires_of w pins macros))

-- C67: 11 to 18, then 21
unfoldable pub wired : Weighing → List ℤ → List ℤ → ℕ → Told ℕ
wired w pins macros room = only_if (checked w pins macros) (wires_given w pins macros room)
