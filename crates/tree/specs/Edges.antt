-- A tree's edges as they are given, in the order of their table. `edges_of` lists the same edges from the last to the first.
use Rattle.std.specs.Prelude.{List, [], ◌∷◌, ℕ, zero, suc, ℤ, get_or}
use Rattle.plane.specs.declared.Place.{Place}
use Rattle.tree.specs.Table.{Tree}
use Rattle.tree.specs.Places.{ends_of}

-- n edges of a tree's tables from number i on, as pairs of places
unfoldable pub edges_from : List ℤ → List ℕ → ℕ → ℕ → List (Place × Place)
edges_from pts ks i zero = []
edges_from pts ks i (suc n) = ends_of pts (get_or ks i 0) ∷ edges_from pts ks (suc i) n

-- the first e of them
abbrev pub table_edges : List ℤ → List ℕ → ℕ → List (Place × Place)
table_edges pts ks e = edges_from pts ks 0 e

-- all edges of a tree
abbrev pub tree_edges : Tree → List (Place × Place)
tree_edges t = table_edges t.points t.edges.keys t.edges.size
