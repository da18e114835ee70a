-- Quadrants and picks.
use Rattle.std.specs.Prelude.{Bool, true, cond, ◌&&◌, List, [], ◌∷◌, ltb}
use Rattle.std.specs.Int.Signed.{lt_z, le_z}
use Rattle.plane.specs.declared.Place.{Place}
use Rattle.plane.specs.declared.Macro.{Macro}
use Rattle.plane.specs.declared.Weights.{Weights}
use Rattle.plane.specs.Cost.{cost}
use Rattle.plane.specs.Macro.{clear}
use Rattle.picks.specs.declared.Quadrant.{Quadrant}
use Rattle.picks.specs.declared.Quadrant.TheVariants.{First, Second, Third, Fourth}
use Rattle.std.specs.Prelude.{Option, Some, None}

-- G2: the four quadrants of u, each open at one of its sides and closed at the other
unfoldable pub within : Quadrant → Place → Place → Bool
within First u v = lt_z u.x v.x && le_z u.y v.y
within Second u v = le_z v.x u.x && lt_z u.y v.y
within Third u v = lt_z v.x u.x && le_z v.y u.y
within Fourth u v = le_z u.x v.x && lt_z v.y u.y

-- v is nearer to u, by cost, than what was picked so far; anything is nearer than nothing
unfoldable pub nearer : Weights → Place → Place → Option Place → Bool
nearer w u v None = true
nearer w u v (Some p) = ltb (cost w u v) (cost w u p)

-- the pick so far with one vertex more, which takes its place where it is in the quadrant, nearer, and clear
unfoldable pub better : Weights → List Macro → Quadrant → Place → Option Place → Place → Option Place
better w ms q u best v = cond (within q u v && (nearer w u v best && clear u v ms)) (Some v) best

unfoldable pub pick_from : Weights → List Macro → Quadrant → Place → Option Place → List Place → Option Place
pick_from w ms q u best [] = best
pick_from w ms q u best (v ∷ vs) = pick_from w ms q u (better w ms q u best v) vs

-- G4: in a quadrant u picks the nearest vertex that is clear of it, of several the smallest, or none. The vertices come in order, so the
-- first of the nearest stays.
unfoldable pub pick : Weights → List Macro → Quadrant → Place → List Place → Option Place
pick w ms q u vs = pick_from w ms q u None vs
