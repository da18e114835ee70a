-- Numbers of places and of edges.
use Rattle.std.specs.Prelude.{List, map, ℕ, pos, length, get_or, replicate}
use Rattle.lists.specs.Sorted.{sorted, position}
use Rattle.lent.specs.Over.{over}
use Rattle.plane.specs.declared.Place.{Place}
use Rattle.plane.specs.Place.{place, before}
use Rattle.plane.specs.declared.Weights.{Weights}
use Rattle.plane.specs.Cost.{cost}
use Rattle.forest.specs.Bounds.{edge_bound}
use Rattle.forest.specs.Edges.{Graph, graph}

-- how many vertices come before it, and the vertex of which that is the number
abbrev pub number_of : List Place → Place → ℕ
number_of vs p = position before vs p

abbrev pub vertex_at : List Place → ℕ → Place
vertex_at vs i = get_or vs i (place (pos 0) (pos 0))

-- the edge of a number
abbrev pub edge_at : List (Place × Place) → ℕ → Place × Place
edge_at es k = get_or es k (place (pos 0) (pos 0), place (pos 0) (pos 0))

-- a fresh table of the router with the numbers xs at its front
abbrev pub table : List ℕ → List ℕ
table xs = over xs (replicate edge_bound 0)

-- the graph by numbers: the two ends of each edge, and its cost
unfoldable pub numbered : Weights → List Place → List (Place × Place) → Graph
numbered w vs es =
    graph
    (table (map (λ e. number_of vs e.0) es))
    (table (map (λ e. number_of vs e.1) es))
    (table (map (λ e. cost w e.0 e.1) es))
    (length es)

-- the pins by numbers, in the order of places
unfoldable pub pin_numbers : List Place → List Place → List ℕ
pin_numbers vs ps = map (number_of vs) (sorted before ps)
