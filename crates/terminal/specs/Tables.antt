-- The tables that the router lends for a terminal tree: what is asked of them, and what they hold once the tree is worked out.
use Rattle.std.specs.Prelude.{◌≡◌, List, map, ℕ, ◌*◌, ◌≤◌, ◌<◌, ℤ, length, get_or, replicate}
use Rattle.lent.specs.Over.{over}
use Rattle.lent.specs.Entries.{flat}
use Rattle.plane.specs.declared.Place.{Place}
use Rattle.net.specs.Net.{Net}
use Rattle.graph.specs.Spanning.{vertices_of, spanning}
use Rattle.graph.specs.Numbers.{place_numbers, edge_numbers, edge_from}
use Rattle.forest.specs.Bounds.{point_bound, edge_bound, path_bound}
use Rattle.forest.specs.Edges.{graph, from, Listed}
use Rattle.forest.specs.Labels.{labels, unlabelled}
use Rattle.forest.specs.Parents.{parents, orphans}
use Rattle.terminal.specs.declared.TerminalTree.{TerminalTree}
use Rattle.terminal.specs.Number.{pin_numbers}
use Rattle.terminal.specs.Tree.{graph_of, tree_of, lengths_of, total_of}

-- vertices and edges by their numbers; the ends of each edge and its length; the pins; the label and the parent of each vertex; the kept
-- bridges and the lengths of their paths
pub record Tables : Type 0 where
  pub points : List ℤ
  pub links : List ℤ
  pub ones : List ℕ
  pub twos : List ℕ
  pub spans : List ℕ
  pub pins : List ℕ
  pub fars : List ℕ
  pub roots : List ℕ
  pub ups : List ℕ
  pub vias : List ℕ
  pub kept : List ℕ
  pub longs : List ℕ

abbrev pub tables : List ℤ → List ℤ → List ℕ → List ℕ → List ℕ → List ℕ → List ℕ → List ℕ → List ℕ → List ℕ → List ℕ → List ℕ → Tables
tables vs es ea eb el pin far root up via kept long = record {
  points = vs;
  links = es;
  ones = ea;
  twos = eb;
  spans = el;
  pins = pin;
  fars = far;
  roots = root;
  ups = up;
  vias = via;
  kept = kept;
  longs = long;
}

-- as they are lent: each as long as its bound says, and where what stands past the answer is read, empty
pub record Fresh (t : Tables) : Type 0 where
  pub points : length t.points ≡ point_bound * 2
  pub links : length t.links ≡ edge_bound * 4
  pub ones : t.ones ≡ replicate edge_bound 0
  pub twos : t.twos ≡ replicate edge_bound 0
  pub spans : t.spans ≡ replicate edge_bound 0
  pub pins : length t.pins ≡ point_bound
  pub no_label : labels t.fars t.roots ≡ unlabelled
  pub no-parent : parents t.ups t.vias ≡ orphans
  pub kept : length t.kept ≡ edge_bound
  pub longs : length t.longs ≡ edge_bound

-- what they hold when the terminal tree of a net is worked out, with the counts and the total in r
pub record Worked (net : Net) (lent t : Tables) (r : TerminalTree) : Type 0 where
  pub vertices-are : t.points ≡ over (flat place_numbers (vertices_of net)) lent.points
  pub edges_are : t.links ≡ over (flat edge_numbers (spanning net)) lent.links
  pub graph_is : graph t.ones t.twos t.spans r.edges ≡ graph_of net
  pub pins-are : Listed (pin_numbers (vertices_of net) net.pins) lent.pins t.pins r.pins
  pub labels-are : labels t.fars t.roots ≡ (tree_of net).labels
  pub parents-are : parents t.ups t.vias ≡ (tree_of net).parents
  pub bridges-are : Listed (tree_of net).bridges lent.kept t.kept r.kept
  pub lengths-are : Listed (lengths_of net) lent.longs t.longs r.kept
  pub total-is : r.total ≡ total_of net
  pub vertex-count : r.points ≡ length (vertices_of net)
  pub edge_count : r.edges ≡ length (spanning net)
  pub pin-count : r.pins ≡ length net.pins

-- The kept paths as the tables have them

-- the i-th: its bridge and its length
abbrev pub path_at : List ℤ → List ℕ → List ℕ → ℕ → (Place × Place) × ℕ
path_at es kept long i = (edge_from es (get_or kept i 0 * 4), get_or long i 0)

unfoldable pub paths_in : List ℤ → List ℕ → List ℕ → ℕ → List ((Place × Place) × ℕ)
paths_in es kept long n = map (path_at es kept long) (from 0 n)

-- n paths can be given in a list of `room` numbers
pub record Givable (es : List ℤ) (kept long : List ℕ) (n room : ℕ) : Type 0 where
  pub edges-known : length es ≡ edge_bound * 4
  pub few : n ≤ edge_bound
  pub bridge : (i : ℕ) → i < n → get_or kept i 0 < edge_bound
  pub short : (i : ℕ) → i < n → get_or long i 0 ≤ path_bound
  pub space : n * 5 ≤ room
