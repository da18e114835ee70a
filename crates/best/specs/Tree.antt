-- L10 to L13: a best tree of a net. Which one a program gives, where several cost the same, is left to it.
use Rattle.std.specs.Prelude.{◌≡◌, true, List, ℕ, ◌*◌, ◌≤◌, ◌<◌, ℤ, length}
use Rattle.lists.specs.Member.{◌∈◌}
use Rattle.lists.specs.Sorted.{Ascending}
use Rattle.joined.specs.Joined.{Link, others, Joins}
use Rattle.joined.specs.Cost.{lengths}
use Rattle.joined.specs.OneTree.{OneTree, Simple}
use Rattle.lent.specs.Over.{over}
use Rattle.lent.specs.Entries.{flat}
use Rattle.plane.specs.declared.Place.{Place}
use Rattle.plane.specs.Place.{before}
use Rattle.plane.specs.Distance.{distance}
use Rattle.plane.specs.Macro.{clear}
use Rattle.net.specs.Net.{Net, cost_in}
use Rattle.net.specs.Allowed.{PlaceInRange}
use Rattle.graph.specs.Edges.{before_edge}
use Rattle.graph.specs.Numbers.{edge_numbers}
use Rattle.lines.specs.Lines.{x_lines, y_lines}
use Rattle.lines.specs.Edges.{Edge, grid_edges}
use Rattle.best.specs.Sets.{Edges}

-- L10: edges of the grid that join all pins
pub record JoinsPins (net : Net) (F : List Edge) : Type 0 where
  pub on-grid : Edges (grid_edges net) F
  pub joins : Joins net.pins F

-- L11: a best tree joins all pins, and no edges of the grid that do cost less
pub record IsBest (net : Net) (O : List Edge) : Type 0 where
  pub all-joined : JoinsPins net O
  pub least : (F : List Edge) → JoinsPins net F → lengths (cost_in net) O ≤ lengths (cost_in net) F
  -- L13: what is asked of a bought-in tree: one tree, no edge twice and none with equal ends, each clear
  pub one-tree : OneTree net.pins O
  pub simple : Simple O
  pub free : (a b : Place) → (a, b) ∈ O → clear a b net.macros ≡ true
  -- a point that is no pin has a second edge
  pub two : (x y : Place) (l : Link O x y) → (x ∈ net.pins → ⊥) → (z : Place) × Link (others l) x z
  -- fewer edges than crossings
  pub few : length O < length (x_lines net) * length (y_lines net)

-- L13: and it is given with the smaller place of each edge first, the edges in order, its places on the die
pub record BestTree (net : Net) (O : List Edge) : Type 0 where
  pub best : IsBest net O
  pub smaller-first : (a b : Place) → (a, b) ∈ O → before a b ≡ true
  pub in_order : Ascending before_edge O
  pub in-range : (a b : Place) → (a, b) ∈ O → PlaceInRange a × PlaceInRange b

-- L11 to L13: such a tree at the front of a lent list; how many edges it has, what they cost and, as of the refined tree (R22), their metal
pub record BestOver (net : Net) (lent lent' : List ℤ) (edges total metal : ℕ) : Type 0 where
  pub tree : List Edge
  pub is-best : BestTree net tree
  pub count : edges ≡ length tree
  pub cost : total ≡ lengths (cost_in net) tree
  pub plain : metal ≡ lengths distance tree
  pub list : lent' ≡ over (flat edge_numbers tree) lent
