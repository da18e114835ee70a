-- What is promised of a refined tree: rules R14, R20 and R21.
use Rattle.std.specs.Prelude.{◌≡◌, true, ℕ, ◌+◌, ◌≤◌, ◌<◌, length, get_or}
use Rattle.plane.specs.Macro.{clear}
use Rattle.plane.specs.Rank.{InOrder}
use Rattle.net.specs.Net.{Net}
use Rattle.joined.specs.OneTree.{OneTree}
use Rattle.tree.specs.Table.{Tree, Within}
use Rattle.tree.specs.Places.{ends_of, edges_of, tree_total, Ranked}
use Rattle.beside.specs.Beside.{Ground}

-- what is promised of the tree r that refines the tree t
pub record Promise (net : Net) (t r : Tree) : Type 0 where
  -- R20: one loop-free way along the edges from each point to each other one
  pub one : OneTree net.pins (edges_of r.points r.edges.keys r.edges.size)
  -- R21: the ends of each edge are clear of each other
  pub free : (i : ℕ) → i < r.edges.size → clear (ends_of r.points (get_or r.edges.keys i 0)).0
      (ends_of r.points (get_or r.edges.keys i 0)).1 net.macros ≡ true
  -- R14: no more than the tree had
  pub total : tree_total net.weights r ≤ tree_total net.weights t

-- what is promised of its tables: edges in order (C66), and fewer of them than the points that there can be (N24): the graph's vertices,
-- and one further point for each pin
pub record Tabled (net : Net) (g : Ground) (r : Tree) : Type 0 where
  pub ordered : InOrder r.points r.count
  pub within : Within r.count r.edges.keys
  pub ranked : Ranked r.edges.keys r.edges.size
  pub few : r.edges.size < g.count + length net.pins
