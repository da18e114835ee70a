-- The edges of a flat list, four numbers an edge.
use Rattle.std.specs.Prelude.{List, ℕ, ◌*◌, ℤ}
use Rattle.lent.specs.Entries.{entries}
use Rattle.plane.specs.declared.Place.{Place}
use Rattle.net.specs.Bounds.{tree_bound}
use Rattle.graph.specs.Numbers.{edge_from}

-- the first e
abbrev pub edges_of : List ℤ → ℕ → List (Place × Place)
edges_of s e = entries edge_from 4 s e

-- two for each edge of a refined tree
abbrev pub laid_bound : ℕ
laid_bound = tree_bound * 2
