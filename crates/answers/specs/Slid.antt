-- The slid tree among the operations: rules C81 and C82. What it is stands in `slide` (specs/Slide.antt).
use Rattle.std.specs.Prelude.{List, ℕ, ℤ, pos, length}
use Rattle.lent.specs.Told.{Told, only_if}
use Rattle.plane.specs.declared.Place.{Place}
use Rattle.net.specs.Pins.{pin_count}
use Rattle.net.specs.declared.Weighing.{Weighing}
use Rattle.checks.specs.Check.{checked}
use Rattle.net.specs.Net.{Net, net_of, cost_in}
use Rattle.room.specs.Needs.{wire_need}
use Rattle.joined.specs.Cost.{lengths}
use Rattle.refined.specs.Metal.{metal}
use Rattle.slide.specs.Slide.{slid}
use Rattle.answers.specs.Room.{if_room}
use Rattle.answers.specs.Graph.{point_count}
use Rattle.answers.specs.Refined.{edges_in}

-- M1: from the refined tree's edges
unfoldable pub slid_in : Net → List (Place × Place)
slid_in net = slid net (edges_in net)

-- The operation

-- C82: the edges in order, their total, and their metal
abbrev pub slid_of : Weighing → List ℤ → List ℤ → List (Place × Place)
slid_of w pins macros = slid_in (net_of w pins macros)

abbrev pub slid_total : Weighing → List ℤ → List ℤ → ℕ
slid_total w pins macros = lengths (cost_in (net_of w pins macros)) (slid_of w pins macros)

abbrev pub slid_metal : Weighing → List ℤ → List ℤ → ℕ
slid_metal w pins macros = metal (slid_of w pins macros)

abbrev pub slid_answer : Weighing → List ℤ → List ℤ → ℕ × (ℤ × ℤ)
slid_answer w pins macros = (length (slid_of w pins macros), (pos (slid_total w pins macros), pos (slid_metal w pins macros)))

-- C81: fewer than 8(n + m) numbers
unfoldable pub slid_given : Weighing → List ℤ → List ℤ → ℕ → Told (ℕ × (ℤ × ℤ))
slid_given w pins macros room = if_room (wire_need (point_count pins macros) (pin_count pins)) room (slid_answer w pins macros)

-- C81: 11 to 18, then 21
unfoldable pub slid_tree : Weighing → List ℤ → List ℤ → ℕ → Told (ℕ × (ℤ × ℤ))
slid_tree w pins macros room = only_if (checked w pins macros) (slid_given w pins macros room)
