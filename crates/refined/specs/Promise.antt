-- What is promised of an edge's wires, of the wires of edges, and of a refined tree's edges as they are given.
use Rattle.std.specs.Prelude.{◌≡◌, true, ◌⊎◌, List, [], ◌∷◌, ◌++◌, ℕ, ◌+◌, ◌*◌, ◌≤◌, ◌<◌, length}
use Rattle.std.specs.Int.Signed.{lt_z}
use Rattle.lists.specs.Member.{◌∈◌}
use Rattle.lists.specs.Sorted.{Ascending}
use Rattle.plane.specs.declared.Place.{Place}
use Rattle.plane.specs.declared.Macro.{Macro}
use Rattle.plane.specs.Place.{before}
use Rattle.plane.specs.Distance.{distance}
use Rattle.plane.specs.Macro.{clear}
use Rattle.plane.specs.Box.{InBox}
use Rattle.net.specs.Net.{Net, cost_in}
use Rattle.joined.specs.Cost.{lengths}
use Rattle.joined.specs.OneTree.{OneTree}
use Rattle.graph.specs.Edges.{before_edge}
use Rattle.tree.specs.Table.{Tree}
use Rattle.beside.specs.Beside.{Ground}
use Rattle.tree.specs.Edges.{tree_edges}

-- Wires

-- along one axis: exactly one coordinate differs
abbrev pub Horizontal : Place × Place → Type 0
Horizontal w = (w.0.y ≡ w.1.y) × (w.0.x ≡ w.1.x → ⊥)

abbrev pub Vertical : Place × Place → Type 0
Vertical w = (w.0.x ≡ w.1.x) × (w.0.y ≡ w.1.y → ⊥)

-- from a to b, each wire beginning where the one before ended
abbrev pub Leads : Place → List (Place × Place) → Place → Type 0
Leads a [] b = a ≡ b
Leads a (w ∷ ws) b = (w.0 ≡ a) × Leads w.1 ws b

-- what is promised of the wires ws of the edge e
pub record EdgeWires (e : Place × Place) (ws : List (Place × Place)) : Type 0 where
  -- W2: first across, then up or down; W3: none of length zero
  pub across : List (Place × Place)
  pub up : List (Place × Place)
  pub whole : ws ≡ across ++ up
  pub few : (length across ≤ 1) × (length up ≤ 1)
  pub level : (w : Place × Place) → w ∈ across → Horizontal w
  pub upright : (w : Place × Place) → w ∈ up → Vertical w
  -- W2, W4: from the edge's smaller place to its larger one, each wire by its start and its end
  pub leads : Leads e.0 ws e.1
  pub rightward : before e.0 e.1 ≡ true → (w : Place × Place) → w ∈ across → lt_z w.0.x w.1.x ≡ true
  -- the wires are the edge's metal
  pub long : lengths distance ws ≡ distance e.0 e.1
  -- R21: the wires of an edge lie in the box of its ends
  pub inside : (w : Place × Place) → w ∈ ws → InBox w.0 e.0 e.1 × InBox w.1 e.0 e.1
  -- R21: where the ends of the edge are clear of each other, so are those of its wires
  pub free : (ms : List Macro) → clear e.0 e.1 ms ≡ true → (w : Place × Place) → w ∈ ws → clear w.0 w.1 ms ≡ true

-- what is promised of the wires ws of the edges es
pub record Wired (es ws : List (Place × Place)) : Type 0 where
  pub few : length ws ≤ 2 * length es
  pub axis : (w : Place × Place) → w ∈ ws → Horizontal w ⊎ Vertical w
  -- R22: the wires are the edges' metal, by its length, whatever a unit of it costs
  pub long : lengths distance ws ≡ lengths distance es
  pub free : (ms : List Macro) → ((e : Place × Place) → e ∈ es → clear e.0 e.1 ms ≡ true)
      → (w : Place × Place) → w ∈ ws → clear w.0 w.1 ms ≡ true

-- Edges

-- what is promised of the edges es and the total that are given when the tree t of a net is refined on the ground g
pub record Given (net : Net) (g : Ground) (t : Tree) (es : List (Place × Place)) (total : ℕ) : Type 0 where
  -- R20: one loop-free way along the edges from each point to each other one
  pub one : OneTree net.pins es
  -- R21: the ends of each edge are clear of each other
  pub free : (e : Place × Place) → e ∈ es → clear e.0 e.1 net.macros ≡ true
  -- N16: each edge has its smaller place first, and edges are in order
  pub smaller : (e : Place × Place) → e ∈ es → before e.0 e.1 ≡ true
  pub ordered : Ascending before_edge es
  -- C66: the total is what they cost together, no more than those of the tree
  pub sum : total ≡ lengths (cost_in net) es
  pub less : total ≤ lengths (cost_in net) (tree_edges t)
  -- fewer than the points that there can be: the graph's vertices, and one further point for each pin
  pub few : length es < g.count + length net.pins
