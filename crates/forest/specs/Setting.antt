-- What the theorems suppose of a graph with sources.
use Rattle.std.specs.Prelude.{◌≡◌, List, map, ℕ, ◌≤◌, ◌<◌}
use Rattle.lists.specs.Member.{◌∈◌, Once}
use Rattle.joined.specs.Joined.{Joined}
use Rattle.forest.specs.Bounds.{point_bound, edge_bound, cost_bound}
use Rattle.forest.specs.Edges.{Graph, one, two, len, from}

-- the edges as pairs of vertices
unfoldable pub ends : Graph → ℕ → ℕ × ℕ
ends g k = (one g k, two g k)

abbrev pub pairs : Graph → List (ℕ × ℕ)
pairs g = map (ends g) (from 0 g.count)

-- a graph of n vertices: the ends of its edges are vertices, the length of an edge is what d says of its ends, and the sources are
-- vertices
pub record Setting (g : Graph) (n : ℕ) (d : ℕ → ℕ → ℕ) (sources : List ℕ) : Type 0 where
  pub vertices : n ≤ point_bound
  pub edges : g.count ≤ edge_bound
  pub one_in : (k : ℕ) → k < g.count → one g k < n
  pub two_in : (k : ℕ) → k < g.count → two g k < n
  pub measured : (k : ℕ) → k < g.count → d (one g k) (two g k) ≡ len g k
  pub some : (k : ℕ) → k < g.count → 1 ≤ len g k
  pub short : (k : ℕ) → k < g.count → len g k ≤ cost_bound
  pub even : (a b : ℕ) → d a b ≡ d b a
  pub sources-in : (v : ℕ) → v ∈ sources → v < n

-- the graph joins its vertices, and there is a source
pub record Whole (g : Graph) (n : ℕ) (sources : List ℕ) : Type 0 where
  pub joined : (x y : ℕ) → x < n → y < n → Joined (pairs g) x y
  pub source : ℕ
  pub is-source : source ∈ sources
  pub once : Once sources
