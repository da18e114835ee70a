-- Wires: rules W1 to W4.
use Rattle.std.specs.Prelude.{true, false, List, [], ◌∷◌, ◌++◌, eqb}
use Rattle.plane.specs.declared.Place.{Place}
use Rattle.plane.specs.Place.{place}
use Rattle.plane.specs.Distance.{distance}

-- W3: a wire of length zero is left out
unfoldable pub drawn : Place → Place → List (Place × Place)
drawn a b = elim (eqb (distance a b) 0) [ true ↦ [] | false ↦ (a, b) ∷ [] ]

-- where the horizontal wire from a ends and the vertical one to b begins
abbrev pub bend : Place → Place → Place
bend a b = place b.x a.y

-- W2: an edge gives a horizontal wire from its smaller place, which it has first, and then a vertical one to its larger place; W4: each by
-- its start and its end as it is drawn
unfoldable pub wires_of_edge : Place × Place → List (Place × Place)
wires_of_edge e = drawn e.0 (bend e.0 e.1) ++ drawn (bend e.0 e.1) e.1

unfoldable pub wires : List (Place × Place) → List (Place × Place)
wires [] = []
wires (e ∷ es) = wires_of_edge e ++ wires es
