-- Points of a tree that are none of given places. A tree starts with vertices of the graph, of which there are only so many; so it is the
-- others that have to be counted round by round.
use Rattle.std.specs.Prelude.{true, false, List, [], ◌∷◌, ℕ, length}
use Rattle.lists.specs.Any.{any}
use Rattle.plane.specs.declared.Place.{Place}
use Rattle.plane.specs.Place.{same_place}
use Rattle.tree.specs.Table.{Tree}
use Rattle.tree.specs.Places.{points_of}

-- the places of a list that are none of vs
unfoldable pub outside : List Place → List Place → List Place
outside vs [] = []
outside vs (p ∷ ps) = elim (any (same_place p) vs) [ true ↦ outside vs ps | false ↦ p ∷ outside vs ps ]

-- how many points of a tree are none of vs
abbrev pub strangers : List Place → Tree → ℕ
strangers vs t = length (outside vs (points_of t.points t.count))
