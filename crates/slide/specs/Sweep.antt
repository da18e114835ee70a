-- How far a bar moves, and what that saves: rules M8 to M11.
use Rattle.std.specs.Prelude.{Bool, true, false, not, ◌&&◌, ◌||◌, List, ℕ, zero, suc, ◌-◌, ◌*◌, length}
use Rattle.std.specs.Int.Signed.{le_z}
use Rattle.lists.specs.Any.{any}
use Rattle.lists.specs.Those.{those}
use Rattle.signed.specs.Order.{z_min, z_max}
use Rattle.plane.specs.declared.Place.{Place}
use Rattle.plane.specs.Place.{place, same_place}
use Rattle.plane.specs.Macro.{clear}
use Rattle.net.specs.Net.{Net}
use Rattle.slide.specs.declared.Side.{Side}
use Rattle.slide.specs.Side.{moved, weight}
use Rattle.slide.specs.Bend.{Edge, taken}
use Rattle.slide.specs.Bar.{of_bar, hangs, ahead, behind, shortest, far_ends, first_of, last_of}

-- where the closed boxes of two pairs of places meet: the box of these two places, if the first is not beyond the second
unfoldable pub low_corner : Edge → Edge → Place
low_corner e f =
    place (z_max (z_min e.0.x e.1.x) (z_min f.0.x f.1.x))
    (z_max (z_min e.0.y e.1.y) (z_min f.0.y f.1.y))

unfoldable pub high_corner : Edge → Edge → Place
high_corner e f =
    place (z_min (z_max e.0.x e.1.x) (z_max f.0.x f.1.x))
    (z_min (z_max e.0.y e.1.y) (z_max f.0.y f.1.y))

unfoldable pub boxes_meet : Edge → Edge → Bool
boxes_meet e f = le_z (low_corner e f).x (high_corner e f).x && le_z (low_corner e f).y (high_corner e f).y

-- they meet in the place q and nowhere else
unfoldable pub only_in : Edge → Edge → Place → Bool
only_in e f q = same_place (low_corner e f) q && same_place (high_corner e f) q

-- X: the tree points;  T: the edges;  a: a point of the bar
module _ (s : Side) (on : Place → Bool) (X : List Place) (T : List Edge) (a : Place) where
  -- M8: the bar's ends
  unfoldable pub first_place : Place
  first_place = first_of a (those on X)

  unfoldable pub last_place : Place
  last_place = last_of a (those on X)

  -- M8: the closed box that a move by d sweeps, by two of its corners
  unfoldable pub swept : ℕ → Edge
  swept d = (first_place, moved s d last_place)

  -- M9: a tree point blocks if it is in the box, not on the bar and not the far end of a shortest hanging edge
  unfoldable pub point_bars : ℕ → Place → Bool
  point_bars d p = boxes_meet (p, p) (swept d) && (not (on p) && not (taken (far_ends s on T) p))

  -- M9: an edge blocks if it meets the box, is not of the bar and does not hang from it, and does not meet the box in such a far end alone
  unfoldable pub edge_bars : ℕ → Edge → Bool
  edge_bars d e =
      boxes_meet e (swept d)
      && (not (of_bar s on e || hangs s on e) && not (any (only_in e (swept d)) (far_ends s on T)))

  -- M9: no interior, no tree point and no edge blocks
  unfoldable pub allowed : Net → ℕ → Bool
  allowed net d =
      clear (swept d).0 (swept d).1 net.macros && (not (any (point_bars d) X) && not (any (edge_bars d) T))

-- the greatest number up to n that passes the test; 0 also where none does
unfoldable pub greatest : (ℕ → Bool) → ℕ → ℕ
greatest ok zero = zero
greatest ok (suc n) = elim (ok (suc n)) [ true ↦ suc n | false ↦ greatest ok n ]

module _ (s : Side) (on : Place → Bool) where
  -- M10: the greatest allowed distance, at most the shortest hanging edge on the side; a bar that stays moves by 0
  unfoldable pub reach : Net → List Place → List Edge → Place → ℕ
  reach net X T a = greatest (allowed s on X T a net) (shortest s on T)

  -- M7: how many more edges hang on the side than on the other
  unfoldable pub surplus : List Edge → ℕ
  surplus T = length (those (ahead s on) T) - length (those (behind s on) T)

  -- M11: what a move by d saves
  unfoldable pub saving_of : Net → List Edge → ℕ → ℕ
  saving_of net T d = d * surplus T * weight net s
