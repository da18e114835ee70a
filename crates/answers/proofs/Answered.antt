-- What every operation answers for a net's lists, and what a tree's operations give, each as one value: a worked net unfolds it, and with
-- it all that it rests on, down to the graph.
-- Assumes nothing.
use mathlib.Core.List.{List}
use Prim.Native.Nat.{ℕ, ◌*◌}
use lib.IntN.{ℤ}
use Rattle.lent.specs.Told.{Told, only_if}
use Rattle.plane.specs.declared.Place.{Place}
use Rattle.plane.specs.Distance.{distance}
use Rattle.joined.specs.Cost.{lengths}
use Rattle.net.specs.WorkedNets.{Lists}
use Rattle.net.specs.declared.Net.{Net as Counts}
use Rattle.net.specs.declared.Weighing.{Weighing}
use Rattle.net.specs.Bounds.{pin_bound, point_bound, edge_bound, tree_bound}
use Rattle.checks.specs.Check.{checked}
use Rattle.checks.proofs.WorkedChecks.{answer}
use Rattle.terminal.proofs.WorkedPaths.{tree_in}
use Rattle.union.proofs.WorkedUnions.{union}
use Rattle.beside.specs.Beside.{offer, is_point, take_seat, weighed, on_way, free}
use Rattle.refiner.specs.Graft.{pair_key, not_below, key_rank, leaf, grafted}
use Rattle.forest.specs.Parents.{climb, way_after}
use Rattle.refined.specs.Ground.{ground_of}
use Rattle.refiner.proofs.WorkedTrees.{refined_of as worked}
use Rattle.tree.specs.Edges.{edges_from}
use Rattle.refined.proofs.WorkedWires.{given as wired-given}
use Rattle.answers.specs.Graph.{net_vertices, net_edges, graph_room_short, graph_given, graphed}
use Rattle.answers.specs.Room.{if_room}
use Rattle.answers.specs.Terminal.{paths_of, paths_total, terminal_given, terminal_tree}
use Rattle.answers.specs.Refined.{refined_of, edges_in, total_in, laid_of, refined_given, refined_tree}
use Rattle.answers.specs.Wires.{wires_of, wires_given, wired}

-- what the operations answer when the space of the largest net is lent
pub record Answers : Type 0 where
  pub check : Told Counts
  pub graph : Told (ℕ × ℕ)
  pub terminal : Told (ℕ × ℤ)
  pub refined : Told (ℕ × (ℤ × ℤ))
  pub wires : Told ℕ

-- to unfold this is to unfold all that it rests on
unfoldable pub answers_by : Weighing → Lists → Answers
unfolding ground_of offer is_point take_seat weighed on_way free pair_key not_below key_rank leaf grafted climb way_after answer tree_in union worked
    wired-given only_if distance lengths edges_from net_vertices net_edges graph_room_short graph_given graphed if_room
    paths_of paths_total terminal_given terminal_tree refined_of edges_in total_in refined_given refined_tree wires_given wired
answers_by w net = record {
  check = checked w net.pins net.macros;
  graph = graphed w net.pins net.macros (point_bound * 2) (edge_bound * 4);
  terminal = terminal_tree w net.pins net.macros (pin_bound * 5);
  refined = refined_tree w net.pins net.macros (tree_bound * 4);
  wires = wired w net.pins net.macros (tree_bound * 8);
}

-- what a tree's operations give
pub record Trees : Type 0 where
  pub paths : List ((Place × Place) × ℕ)
  pub edges : List (Place × Place)
  pub wires : List (Place × Place)

unfoldable pub trees_by : Weighing → Lists → Trees
unfolding answers_by
trees_by w net = record {
  paths = paths_of w net.pins net.macros;
  edges = laid_of w net.pins net.macros;
  wires = wires_of w net.pins net.macros;
}
