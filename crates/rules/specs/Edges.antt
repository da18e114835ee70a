-- Words that the rules share: edges, their order and their cost; lists read as sets.
use Rattle.std.specs.Prelude.{Bool, List, ℕ}
use Rattle.lists.specs.Member.{Among}
use Rattle.lists.specs.Sorted.{first_then}
use Rattle.plane.specs.declared.Place.{Place}
use Rattle.plane.specs.Place.{before}
use Rattle.net.specs.Net.{Net, cost_in}

-- N16: an edge is a pair of places
abbrev pub Edge : Type 0
Edge = Place × Place

-- N16: edges are in order by their first places, then by their second
abbrev pub edge_before : Edge → Edge → Bool
edge_before = first_then before before

-- G6: an edge costs what metal between its ends does
abbrev pub edge_cost : Net → Edge → ℕ
edge_cost net e = cost_in net e.0 e.1

-- the same edges, in whatever order and however often
abbrev pub Same : List Edge → List Edge → Type 0
Same T U = Among T U × Among U T
