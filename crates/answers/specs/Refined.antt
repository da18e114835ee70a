-- The refined tree among the operations: rules C65 and C66.
use Rattle.std.specs.Prelude.{List, ℕ, ℤ, pos, length}
use Rattle.lent.specs.Told.{Told, only_if}
use Rattle.plane.specs.declared.Place.{Place}
use Rattle.net.specs.Pins.{pin_count}
use Rattle.net.specs.declared.Weighing.{Weighing}
use Rattle.net.specs.Net.{Net, net_of, cost_in}
use Rattle.checks.specs.Check.{checked}
use Rattle.room.specs.Needs.{edge_need}
use Rattle.joined.specs.Cost.{lengths}
use Rattle.tree.specs.Table as table
use Rattle.refiner.specs.Refined.{refined}
use Rattle.union.specs.Union.{union_of}
use Rattle.tree.specs.Edges.{tree_edges}
use Rattle.refined.specs.Ground.{ground_of}
use Rattle.refined.specs.Metal.{metal}
use Rattle.answers.specs.Room.{if_room}
use Rattle.answers.specs.Graph.{point_count}

-- The tree of a net

-- R1: from the union of the kept paths, by rounds on the spanning graph, then pruning
unfoldable pub refined_of : Net → table.Tree
refined_of net = refined net (ground_of net) (union_of net)

-- its edges, in order
unfoldable pub edges_in : Net → List (Place × Place)
edges_in net = tree_edges (refined_of net)

-- C66: the total, the costs of the edges added up
unfoldable pub total_in : Net → ℕ
total_in net = lengths (cost_in net) (edges_in net)

-- The operations

-- C66: the edges in order, and their total
abbrev pub laid_of : Weighing → List ℤ → List ℤ → List (Place × Place)
laid_of w pins macros = edges_in (net_of w pins macros)

abbrev pub laid_total : Weighing → List ℤ → List ℤ → ℕ
laid_total w pins macros = total_in (net_of w pins macros)

-- R22: the metal to lay, which is neither the terminal tree's total nor any other cost
abbrev pub metal_of : Weighing → List ℤ → List ℤ → ℕ
metal_of w pins macros = metal (laid_of w pins macros)

-- C52, C66: how many edges are given, their total, and their metal
abbrev pub laid_answer : Weighing → List ℤ → List ℤ → ℕ × (ℤ × ℤ)
laid_answer w pins macros = (length (laid_of w pins macros), (pos (laid_total w pins macros), pos (metal_of w pins macros)))

-- C65: fewer than 4(n + m) numbers
unfoldable pub refined_given : Weighing → List ℤ → List ℤ → ℕ → Told (ℕ × (ℤ × ℤ))
refined_given w pins macros room = if_room (edge_need (point_count pins macros) (pin_count pins)) room (laid_answer w pins macros)

-- C65: 11 to 18, then 21
unfoldable pub refined_tree : Weighing → List ℤ → List ℤ → ℕ → Told (ℕ × (ℤ × ℤ))
refined_tree w pins macros room = only_if (checked w pins macros) (refined_given w pins macros room)
