-- The terminal tree of a net: rules T6 to T16.
use Rattle.std.specs.Prelude.{List, [], ◌∷◌, map, ℕ, ℤ, pos, length}
use Rattle.plane.specs.declared.Place.{Place}
use Rattle.net.specs.Net.{Net}
use Rattle.graph.specs.Spanning.{vertices_of, spanning}
use Rattle.forest.specs.Edges.{Graph}
use Rattle.forest.specs.Labels.{root}
use Rattle.bridges.specs.Bridges.{path_length}
use Rattle.keeping.specs.Kept.{Terminal, terminal}
use Rattle.terminal.specs.Number.{number_of, vertex_at, edge_at, numbered, pin_numbers}

module _ (net : Net) where
  -- the spanning graph of the net by numbers
  abbrev pub graph_of : Graph
  graph_of = numbered net.weights (vertices_of net) (spanning net)

  unfoldable pub tree_of : Terminal
  tree_of = terminal graph_of (length (vertices_of net)) (pin_numbers (vertices_of net) net.pins)

  -- T14: the bridge of each kept path, in the order kept
  unfoldable pub bridges_of : List (Place × Place)
  bridges_of = map (edge_at (spanning net)) tree_of.bridges

  -- T15: the length of each, every edge of it counted
  abbrev pub lengths_of : List ℕ
  lengths_of = tree_of.lengths

  -- T16: the total, their sum
  abbrev pub total_of : ℕ
  total_of = tree_of.total

  -- C64: each path in the order kept, by its bridge and its length
  unfoldable pub paths_of : List ((Place × Place) × ℕ)
  paths_of = map (λ k. (edge_at (spanning net) k, path_length graph_of tree_of.labels.fars tree_of.parents k)) tree_of.bridges

  -- T6: the root of a vertex, the pin nearest along the graph, of several the smallest
  unfoldable pub root_of : Place → Place
  root_of v = vertex_at (vertices_of net) (root tree_of.labels (number_of (vertices_of net) v))

  -- the two pins that a bridge's path joins
  unfoldable pub roots_of : Place × Place → Place × Place
  roots_of b = (root_of b.0, root_of b.1)

-- the numbers that are given for a path
abbrev pub path_numbers : (Place × Place) × ℕ → List ℤ
path_numbers p = p.0.0.x ∷ (p.0.0.y ∷ (p.0.1.x ∷ (p.0.1.y ∷ (pos p.1 ∷ []))))
