-- What is asked of an edge and a third point, by their numbers in the tables of a tree.
use Rattle.std.specs.Prelude.{Bool, not, ◌&&◌, ◌||◌, List, ℕ, ◌+◌, ltb, eqb, ℤ}
use Rattle.lists.specs.Turns.{seek}
use Rattle.plane.specs.declared.Place.{Place}
use Rattle.plane.specs.declared.Macro.{Macro}
use Rattle.plane.specs.declared.Weights.{Weights}
use Rattle.plane.specs.Place.{same_place}
use Rattle.plane.specs.Macro.{clear}
use Rattle.plane.specs.Flat.{place_at}
use Rattle.near.specs.Box.{box_cost}

-- R3: u is clear of a or of b
unfoldable pub sees : List Macro → Place → Place → Place → Bool
sees ms a b u = clear u a ms || clear u b ms

-- R6: the point i, none of a, b and u, stands at s
unfoldable pub taken : List ℤ → ℕ → ℕ → ℕ → Place → ℕ → Bool
taken pts a b u s i = not (eqb i a || (eqb i b || eqb i u)) && same_place s (place_at pts i)

-- R6: a candidate is dropped when there is such a point
unfoldable pub dropped : List ℤ → ℕ → ℕ → ℕ → ℕ → Place → Bool
dropped pts n a b u s = ltb (seek (taken pts a b u s) 0 n) n

unfoldable pub allowed : List ℤ → ℕ → List Macro → ℕ → ℕ → ℕ → Place → Bool
allowed pts n ms a b u s = sees ms (place_at pts a) (place_at pts b) (place_at pts u) && not (dropped pts n a b u s)

-- more than g can be gained with a place p that is f away from the tree, of an edge in the box m, where no edge costs more than x
unfoldable pub may_gain : Weights → Macro → Place → ℕ → ℕ → ℕ → Bool
may_gain w m p f g x = ltb (g + (box_cost w m p + f)) x
