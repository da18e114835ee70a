-- Worked examples: parts of a set, least sums, and edges in order.
-- Assumes nothing.
use mathlib.Core.Path.{◌≡◌, refl}
use mathlib.Core.Bool.{true, false}
use mathlib.Core.List.{[], ◌∷◌}
use Prim.Native.Nat.{ℕ}
use lib.IntN.{pos}
use lib.ListN.{get_or}
use Rattle.lists.specs.Those.{those}
use Rattle.plane.specs.Place.{place}
use Rattle.forest.specs.Edges.{from}
use Rattle.union.specs.Marks.{marks}
use Rattle.grid.specs.Tables.{target}
use Rattle.parts.specs.Numbers.{part_of}
use Rattle.parts.specs.Starts.{under, least, proper_part, sums}
use Rattle.parts.specs.Tables.{lone_pin}
use Rattle.traced.specs.Routes.{in_their_order, marked_edges}

-- pins 0 and 2 are a part of pins 0 to 2; pin 1 is none of pins 0 and 2
part-there : part_of 3 5 7 ≡ true
unfolding part_of
part-there = refl

part-away : part_of 3 2 5 ≡ false
unfolding part_of
part-away = refl

-- the third pin alone; two pins are not one
third-pin : lone_pin 4 ≡ 3
unfolding lone_pin
third-pin = refl

two-pins : lone_pin 5 ≡ 0
unfolding lone_pin
two-pins = refl

-- three pins, of which the sets 1, 2, 4, 3, 5, 6 cost 9, 7, 8, 12, 11 and 20 at some crossing: best is 2 with 5, not 1 with 6 or 3 with 4
cost_of : ℕ → ℕ → ℕ
cost_of p v = get_or (0 ∷ (9 ∷ (7 ∷ (12 ∷ (8 ∷ (11 ∷ (20 ∷ []))))))) p 0

best-split : least 100 (sums 3 cost_of 7 0) ≡ 18
unfolding cost_of sums least proper_part part_of those under
best-split = refl

-- lines at 0 and 3 across, at 0 and 2 along: from the first crossing the edge along comes first, then the one across
corner : marked_edges (pos 0 ∷ (pos 3 ∷ [])) (pos 0 ∷ (pos 2 ∷ [])) (1 ∷ (1 ∷ [])) 2
    ≡ (place (pos 0) (pos 0), place (pos 0) (pos 2)) ∷ ((place (pos 0) (pos 0), place (pos 3) (pos 0)) ∷ [])
unfolding marked_edges marks those from in_their_order target
corner = refl
