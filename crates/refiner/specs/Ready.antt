-- What a round asks for: a ground that is the net's graph, and a tree on it with room for the points that can still come.
use Rattle.std.specs.Prelude.{◌≡◌, true, false, List, [], ℕ, ◌+◌, ◌*◌, ◌≤◌, ◌<◌, length, get_or}
use Rattle.lists.specs.Member.{◌∈◌}
use Rattle.plane.specs.declared.Place.{Place}
use Rattle.plane.specs.declared.Macro.{Macro}
use Rattle.plane.specs.declared.Weights.{Weights}
use Rattle.plane.specs.Macro.{clear}
use Rattle.plane.specs.Flat.{place_at}
use Rattle.plane.specs.Rank.{InOrder}
use Rattle.net.specs.Net.{Net, cost_in}
use Rattle.joined.specs.Joined.{Joined}
use Rattle.forest.specs.Edges.{one, two}
use Rattle.forest.specs.Bounds.{point_bound}
use Rattle.forest.specs.Parents.{way_after, Nearing}
use Rattle.forest.specs.Setting.{pairs, Setting}
use Rattle.tree.specs.Table.{tree_bound, Tree, Within}
use Rattle.tree.specs.Places.{points_of, Ranked, Sound}
use Rattle.tree.specs.Outside.{strangers}
use Rattle.longest.specs.Hung.{Spanned}
use Rattle.beside.specs.Beside.{Ground, labels_in, parents_in, seats_in, chosen_in}
use Rattle.refiner.specs.Round.{exchange_in}
use Rattle.beside.specs.declared.Choice.{Choice}

-- the places of its vertices
abbrev pub vertices_of : Ground → List Place
vertices_of g = points_of g.places g.count

abbrev pub vertex_at : Ground → ℕ → Place
vertex_at g i = place_at g.places i

-- the ground is a graph of the net: vertices in order, pins among them, edges as long as they cost and clear of the macros, all joined
pub record Grounded (net : Net) (g : Ground) : Type 0 where
  pub ordered : InOrder g.places g.count
  pub sized : length g.places ≡ point_bound * 2
  pub few-vertices : g.count ≤ point_bound
  pub setting : Setting g.graph g.count (λ i j. cost_in net (vertex_at g i) (vertex_at g j)) []
  pub joined : (x y : ℕ) → x < g.count → y < g.count → Joined (pairs g.graph) x y
  pub free : (k : ℕ) → k < g.graph.count → clear (vertex_at g (one g.graph k)) (vertex_at g (two g.graph k)) net.macros ≡ true
  pub pinned : (p : Place) → p ∈ net.pins → p ∈ vertices_of g
  pub pin : Place
  pub is-pin : pin ∈ net.pins

-- a tree on this ground, with room for the graph's vertices and for one further point in each of m rounds
pub record Ready (net : Net) (g : Ground) (t : Tree) (m : ℕ) : Type 0 where
  pub grounded : Grounded net g
  pub sound : Sound net t
  pub ranked : Ranked t.edges.keys t.edges.size
  pub room : g.count + (strangers (vertices_of g) t + m) ≤ tree_bound
  pub places : length t.points ≡ tree_bound * 2
  pub rows : length t.edges.keys ≡ tree_bound

-- what the code needs of that: all points are reached, no way to a vertex is too long to be laid, and each vertex has its root among the
-- tree's points
pub record Roomy (g : Ground) (t : Tree) : Type 0 where
  pub spanned : Spanned t.edges.keys t.edges.size t.count
  pub room : (u : ℕ) → u < g.count → t.count + length (way_after (labels_in g t).fars (parents_in g t).ups u) < tree_bound
  pub seated : (u : ℕ) → u < g.count → get_or (seats_in g t) u 0 < t.count
  pub few : t.count < tree_bound
  -- both tables of places are in order
  pub points : (t.count * 2 ≤ length t.points) × InOrder t.points t.count
  pub vertices : (g.count * 2 ≤ length g.places) × InOrder g.places g.count

-- what the exchange of a choice needs: two edges, a point, and beside the tree room for the way
pub record Exchangeable (fars ups seat keys : List ℕ) (n e : ℕ) (c : Choice) : Type 0 where
  pub within : Within n keys
  pub few : (n < tree_bound) × (e < tree_bound)
  pub edge : c.best.edge < e
  pub cut : c.best.cut < e
  pub two : c.best.cut ≡ c.best.edge → ⊥
  pub on : c.beside ≡ false → c.best.point < n
  pub off : c.beside ≡ true → c.best.point < point_bound
  pub nearing : Nearing fars ups
  pub seated : c.beside ≡ true → get_or seat c.best.point 0 < n
  pub room : c.beside ≡ true → (n + length (way_after fars ups c.best.point) < tree_bound)
      × (e + length (way_after fars ups c.best.point) < tree_bound)

-- a round of the tree t in which no candidate gains: the tree q after it is t
pub record Still (w : Weights) (ms : List Macro) (g : Ground) (t q : Tree) : Type 0 where
  pub gain : (chosen_in w ms g t).best.gain ≡ 0
  pub same : q ≡ t

-- a round in which one gains: q is the tree after its exchange
pub record Turned (w : Weights) (ms : List Macro) (g : Ground) (t q : Tree) : Type 0 where
  pub gain : (chosen_in w ms g t).best.gain ≡ 0 → ⊥
  pub moved : q ≡ exchange_in g t (chosen_in w ms g t)
  pub few : (q.count ≤ tree_bound) × (q.edges.size ≤ tree_bound)
  pub within : Within q.count q.edges.keys
