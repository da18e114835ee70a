-- The refined tree of a tree.
use Rattle.std.specs.Prelude.{◌≡◌, List, ℕ, ◌+◌, ◌≤◌, ℤ, length}
use Rattle.plane.specs.declared.Weights.{Weights}
use Rattle.net.specs.Net.{Net}
use Rattle.refiner.specs.declared.Refined.{Refined}
use Rattle.lists.specs.Turns.{turns}
use Rattle.tree.specs.Table.{tree_bound, Tree, tree, Within}
use Rattle.longest.specs.Longest.{edge_cost}
use Rattle.beside.specs.Beside.{Ground}
use Rattle.refiner.specs.Round.{rounds_in}
use Rattle.exchanges.specs.Prune.{pruned}

unfoldable pub refined : Net → Ground → Tree → Tree
refined net g t = pruned net.pins (rounds_in net.weights net.macros g (length net.pins) t)

-- C66: the total, the costs of the edges added up
unfoldable pub add_cost : Weights → List ℤ → List ℕ → ℕ → ℕ → ℕ
add_cost w pts ks k sum = sum + edge_cost w pts ks k

unfoldable pub total : Weights → List ℤ → List ℕ → ℕ → ℕ
total w pts ks e = turns (add_cost w pts ks) 0 e 0

-- what the tables and the answer hold when the tree t of a net is refined on the ground g: its tree, and what its edges cost together
pub record Answer (net : Net) (g : Ground) (t : Tree) (pts : List ℤ) (ks : List ℕ) (r : Refined) : Type 0 where
  pub whole : tree pts r.points ks r.edges ≡ refined net g t
  pub sum : r.total ≡ total net.weights pts ks r.edges
  pub few : (r.points ≤ tree_bound) × (r.edges ≤ tree_bound)
  pub inside : Within r.points ks
