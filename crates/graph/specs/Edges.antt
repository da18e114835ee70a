-- G5: an edge joins two vertices where one of them picks the other.
use Rattle.std.specs.Prelude.{Bool, true, false, List, [], ◌∷◌, ◌++◌}
use Rattle.lists.specs.Sorted.{sorted, first_then}
use Rattle.plane.specs.declared.Place.{Place}
use Rattle.plane.specs.declared.Macro.{Macro}
use Rattle.plane.specs.declared.Weights.{Weights}
use Rattle.plane.specs.Place.{before}
use Rattle.picks.specs.declared.Quadrant.TheVariants.{First, Second, Third, Fourth}
use Rattle.std.specs.Prelude.{Option, Some, None}
use Rattle.picks.specs.Pick.{pick}

-- N16: an edge has its smaller place first
unfoldable pub edge_of : Place → Place → Place × Place
edge_of u v = elim (before u v) [ true ↦ (u, v) | false ↦ (v, u) ]

-- N16: edges go by first place, then by second
unfoldable pub before_edge : Place × Place → Place × Place → Bool
before_edge = first_then before before

-- the edge of a pick, or none
unfoldable pub edge_of_pick : Place → Option Place → List (Place × Place)
edge_of_pick u None = []
edge_of_pick u (Some v) = edge_of u v ∷ []

-- the edges that u picks
unfoldable pub picks_of : Weights → List Macro → List Place → Place → List (Place × Place)
picks_of w ms vs u =
    edge_of_pick u (pick w ms First u vs)
    ++ (edge_of_pick u (pick w ms Second u vs) ++ (edge_of_pick u (pick w ms Third u vs) ++ edge_of_pick u (pick w ms Fourth u vs)))

-- the edges that some vertices pick
unfoldable pub all_picks : Weights → List Macro → List Place → List Place → List (Place × Place)
all_picks w ms vs [] = []
all_picks w ms vs (u ∷ us) = picks_of w ms vs u ++ all_picks w ms vs us

unfoldable pub edges : Weights → List Macro → List Place → List (Place × Place)
edges w ms vs = sorted before_edge (all_picks w ms vs vs)
