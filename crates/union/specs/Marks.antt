-- Marks in tables, as the code makes and reads them.
use Rattle.std.specs.Prelude.{◌≡◌, Bool, true, List, [], ◌∷◌, ℕ, ◌≤◌, ◌<◌, ltb, length, get_or, set}
use Rattle.lists.specs.Those.{those}
use Rattle.forest.specs.Bounds.{point_bound, edge_bound}
use Rattle.forest.specs.Edges.{Graph, one, two, from, entries, Fits, FirstBelow}
use Rattle.forest.specs.Parents.{Parents, Falls}
use Rattle.tree.specs.Table as tables
use Rattle.union.specs.Union.{union_edges}

-- a table with each number of a list marked
unfoldable pub marked : List ℕ → List ℕ → List ℕ
marked [] t = t
marked (k ∷ ks) t = marked ks (set t k 1)

abbrev pub is_marked : List ℕ → ℕ → Bool
is_marked t k = ltb 0 (get_or t k 0)

-- the marked ones of n numbers, in order
unfoldable pub marks : List ℕ → ℕ → List ℕ
marks t n = those (is_marked t) (from 0 n)

-- the table `ranks` has, for each marked one of n numbers, how many marked ones come before it
pub record Ranking (t : List ℕ) (n : ℕ) (ranks : List ℕ) : Type 0 where
  pub rank : (v : ℕ) → v < n → is_marked t v ≡ true → get_or ranks v 0 ≡ length (marks t v)

-- What the code asks of the tables of a terminal tree: vertices below n are the ends of edges, the pins and the kept bridges are numbers of
-- vertices and edges, distances fall along parents, and there is room for the union's edges
pub record Startable (g : Graph) (n : ℕ) (pins : List ℕ) (m : ℕ) (fars : List ℕ) (p : Parents) (kept : List ℕ) (count : ℕ) : Type 0 where
  pub fits : Fits g
  pub falls : Falls g.lengths fars p
  pub vertices : n ≤ point_bound
  pub one_in : (k : ℕ) → k < g.count → one g k < n
  pub two_in : (k : ℕ) → k < g.count → two g k < n
  pub pins-few : m ≤ point_bound
  pub pins-in : FirstBelow pins m point_bound
  pub kept-few : count ≤ edge_bound
  pub kept_in : FirstBelow kept count g.count
  pub room : length (union_edges g fars p (entries kept 0 count)) ≤ tables.tree_bound
