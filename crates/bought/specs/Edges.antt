-- The edges of a flat list, four numbers an edge, and their points: rules V1 and V2.
use Rattle.std.specs.Prelude.{List, [], ◌∷◌, ◌++◌, ℕ, ◌+◌, ◌*◌, ℤ, pos, get_or}
use Rattle.lists.specs.Entries.{fours}
use Rattle.lists.specs.Sorted.{sorted}
use Rattle.plane.specs.declared.Place.{Place}
use Rattle.plane.specs.Place.{place, before}

-- V1: an edge is given from either end
abbrev pub Edge : Type 0
Edge = Place × Place

abbrev pub edge : ℤ → ℤ → ℤ → ℤ → Edge
edge a b c d = (place a b, place c d)

-- the edges that a flat list holds; up to three numbers left over at its end are none
unfoldable pub edges_of : List ℤ → List Edge
unfolding fours
edges_of s = fours edge s

-- the i-th
abbrev pub edge_at : List ℤ → ℕ → Edge
edge_at s i = edge (get_or s (i * 4) (pos 0)) (get_or s (i * 4 + 1) (pos 0)) (get_or s (i * 4 + 2) (pos 0)) (get_or s (i * 4 + 3) (pos 0))

unfoldable pub ends_of : List Edge → List Place
ends_of [] = []
ends_of (e ∷ T) = e.0 ∷ (e.1 ∷ ends_of T)

-- V2: the points are the pins and the ends of the edges
unfoldable pub points_of : List Place → List Edge → List Place
points_of pins T = sorted before (pins ++ ends_of T)
