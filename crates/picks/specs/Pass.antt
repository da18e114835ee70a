-- One pass over the vertices for two picks, as the code makes it: vertices by their numbers, and the best so far with its cost.
use Rattle.std.specs.Prelude.{◌≡◌, Bool, true, cond, not, ◌&&◌, ◌||◌, List, ℕ, ◌/◌, ltb, leb, eqb, ℤ, length}
use Rattle.std.specs.Int.Signed.{lt_z}
use Rattle.signed.specs.Sides.{Le}
use Rattle.plane.specs.declared.Place.{Place}
use Rattle.plane.specs.declared.Macro.{Macro}
use Rattle.plane.specs.declared.Weights.{Weights}
use Rattle.plane.specs.Place.{place}
use Rattle.plane.specs.Cost.{cost}
use Rattle.plane.specs.Macro.{clear}
use Rattle.plane.specs.Flat.{place_at}
use Rattle.picks.specs.declared.Quadrant.{Quadrant}
use Rattle.std.specs.Prelude.{Option, Some, None}
use Rattle.picks.specs.declared.Near.{Near}
use Rattle.picks.specs.declared.Standing.{Standing}
use Rattle.picks.specs.Pick.{within}

-- the i-th of the vertices in a flat list, or none where there is no such vertex
unfoldable pub vertex_picked : List ℤ → ℕ → Option Place
vertex_picked s i = cond (ltb i (length s / 2)) (Some (place_at s i)) None

-- G4's order, by cost and then by place: in order of places a smaller one has the smaller number
unfoldable pub leads : Near → ℕ → ℕ → Bool
leads best far i = ltb best.far far || (eqb best.far far && leb best.at i)

-- the best of a pass, without the macro that blocked last
abbrev pub best_of : Standing → Near
best_of s = record { at = s.at; far = s.far }

-- the i-th vertex v is in the quadrant and comes before the best so far
unfoldable pub is_next : Weights → Quadrant → Place → Near → ℕ → Place → Bool
is_next w q u best i v = within q u v && not (leads best (cost w u v) i)

-- it takes the place of the best so far where it is clear
unfoldable pub if_clear : Weights → List Macro → Place → Near → ℕ → Place → Near
if_clear w ms u best i v = cond (clear u v ms) (record { at = i; far = cost w u v }) best

-- the best so far with the i-th vertex v more, which takes its place where it is in the quadrant, comes earlier, and is clear
unfoldable pub nearest : Weights → List Macro → Quadrant → Place → Near → ℕ → Place → Near
nearest w ms q u best i v =
    cond (within q u v && (not (leads best (cost w u v) i) && clear u v ms)) (record { at = i; far = cost w u v }) best

-- what it costs to come as far across as v is above what the best on that side costs
unfoldable pub is_past : Weights → Place → Place → ℕ → ℕ → Bool
is_past w u v left right = ltb (cond (lt_z v.x u.x) left right) (cost w u (place v.x u.y))

-- a quadrant that reaches to the left only, and one that reaches to the right only
pub record OnLeft (q : Quadrant) : Type 0 where
  pub not_right : (u v : Place) → within q u v ≡ true → Le v.x u.x

pub record OnRight (q : Quadrant) : Type 0 where
  pub not_left : (u v : Place) → within q u v ≡ true → Le u.x v.x
