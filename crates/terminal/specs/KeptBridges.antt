-- Bridges, and which of them are kept, said of places: rules T9 to T14. With roots, parents and ways (Roots.antt) this says which paths are
-- given.
use Rattle.std.specs.Prelude.{◌≡◌, Bool, List, ℕ, ltb}
use Rattle.lists.specs.Member.{◌∈◌}
use Rattle.lists.specs.Sorted.{first_then, Ascending}
use Rattle.joined.specs.Keep.{kept}
use Rattle.plane.specs.declared.Place.{Place}
use Rattle.net.specs.Net.{Net}
use Rattle.graph.specs.Spanning.{spanning}
use Rattle.graph.specs.Edges.{before_edge}
use Rattle.terminal.specs.Tree.{paths_of, root_of}
use Rattle.terminal.specs.Stands.{KeptPath, kept_ends, Stands}

-- by path length, ties by the order of edges
unfoldable pub taken_before : KeptPath → KeptPath → Bool
taken_before j k = first_then ltb before_edge (j.1, j.0) (k.1, k.0)

module _ (net : Net) where
  pub record KeptBridges : Type 0 where
    -- the bridges with the lengths of their paths
    pub offered : List KeptPath
    -- T9: a bridge is an edge whose ends have different roots; T10: it stands for the path between them, over both ways
    pub stands : (k : KeptPath) → k ∈ offered → Stands net k.0 k.1
    pub apart : (k : KeptPath) → k ∈ offered → root_of net k.0.0 ≡ root_of net k.0.1 → ⊥
    pub all : (e : Place × Place) → e ∈ spanning net → (root_of net e.0 ≡ root_of net e.1 → ⊥) → (l : ℕ) × ((e, l) ∈ offered)
    -- T12: bridges come by the length of their paths, equal ones in the order of edges
    pub in_order : Ascending taken_before offered
    -- T13: a bridge is kept where those kept before it do not join its two roots
    pub kept-are : (same : Discrete Place) → paths_of net ≡ kept same (kept_ends net) offered
