-- The graph among the operations: rules C61 and C62.
use Rattle.std.specs.Prelude.{Bool, cond, ◌||◌, List, ℕ, ◌+◌, ◌*◌, ltb, ℤ, length}
use Rattle.lent.specs.Told.{Told, refused, given, only_if}
use Rattle.plane.specs.declared.Place.{Place}
use Rattle.net.specs.Pins.{pin_count, macro_count}
use Rattle.net.specs.declared.Weighing.{Weighing}
use Rattle.net.specs.Net.{net_of}
use Rattle.checks.specs.Check.{checked}
use Rattle.room.specs.Needs.{vertex_need, link_need}
use Rattle.graph.specs.Spanning.{vertices_of, spanning}

unfoldable pub net_vertices : Weighing → List ℤ → List ℤ → List Place
net_vertices w pins macros = vertices_of (net_of w pins macros)

unfoldable pub net_edges : Weighing → List ℤ → List ℤ → List (Place × Place)
net_edges w pins macros = spanning (net_of w pins macros)

-- N7: n = m + 4k
abbrev pub point_count : List ℤ → List ℤ → ℕ
point_count pins macros = pin_count pins + macro_count macros * 4

-- C61: fewer than 2n numbers for vertices or 16n for edges
unfoldable pub graph_room_short : ℕ → ℕ → ℕ → Bool
graph_room_short n vertex_room edge_room = ltb vertex_room (vertex_need n) || ltb edge_room (link_need n)

-- C62, C52: how many vertices and how many edges are given
unfoldable pub graph_given : Weighing → List ℤ → List ℤ → ℕ → ℕ → Told (ℕ × ℕ)
graph_given w pins macros vertex_room edge_room =
    cond (graph_room_short (point_count pins macros) vertex_room edge_room) (refused 21)
    (given (length (net_vertices w pins macros), length (net_edges w pins macros)))

-- C61: 11 to 18, then 21
unfoldable pub graphed : Weighing → List ℤ → List ℤ → ℕ → ℕ → Told (ℕ × ℕ)
graphed w pins macros vertex_room edge_room = only_if (checked w pins macros) (graph_given w pins macros vertex_room edge_room)
