-- Interiors and boxes as points of the plane, fractions included.
use Rattle.std.specs.Prelude.{◌≡◌, true, ℕ, ◌≤◌, ℤ, pos, ◌*ℤ◌}
use Rattle.std.specs.Int.Signed.{lt_z, le_z}
use Rattle.signed.specs.Order.{z_min, z_max}
use Rattle.plane.specs.declared.Place.{Place}
use Rattle.plane.specs.declared.Macro.{Macro}

-- the point (x / over, y / over): every point with fractions has this form
pub record PlanePoint : Type 0 where
  pub x : ℤ
  pub y : ℤ
  pub over : ℕ
  pub positive : 1 ≤ over

-- q and r are one point, written over two denominators: x / over = x' / over', multiplied out
pub record SamePoint (q r : PlanePoint) : Type 0 where
  pub across : q.x *ℤ pos r.over ≡ r.x *ℤ pos q.over
  pub along : q.y *ℤ pos r.over ≡ r.y *ℤ pos q.over

-- a place, whose coordinates are whole, as a point over d
abbrev pub point_of : Place → (d : ℕ) → 1 ≤ d → PlanePoint
point_of p d h = record { x = p.x *ℤ pos d; y = p.y *ℤ pos d; over = d; positive = h }

-- from < n / d < to: the ends are left out
pub record InOpenSpan (n : ℤ) (d : ℕ) (from to : ℤ) : Type 0 where
  pub above : lt_z (from *ℤ pos d) n ≡ true
  pub below : lt_z n (to *ℤ pos d) ≡ true

-- n / d is at least the smaller of a and b and at most the greater: the ends are taken in
pub record InClosedSpan (n : ℤ) (d : ℕ) (a b : ℤ) : Type 0 where
  pub least : le_z (z_min a b *ℤ pos d) n ≡ true
  pub greatest : le_z n (z_max a b *ℤ pos d) ≡ true

-- q lies in the interior of m: left < x < right and bottom < y < top
pub record Interior (m : Macro) (q : PlanePoint) : Type 0 where
  pub across : InOpenSpan q.x q.over m.left m.right
  pub along : InOpenSpan q.y q.over m.bottom m.top

-- q lies in the closed upright box that a and b span
pub record Box (a b : Place) (q : PlanePoint) : Type 0 where
  pub across : InClosedSpan q.x q.over a.x b.x
  pub along : InClosedSpan q.y q.over a.y b.y

-- some point over d lies in the set S; with 2 for d it has whole or half coordinates
pub record Some (d : ℕ) (S : PlanePoint → Type 0) : Type 0 where
  pub point : PlanePoint
  pub over : point.over ≡ d
  pub lies : S point

-- some point over d lies in both sets
abbrev pub Common : ℕ → (PlanePoint → Type 0) → (PlanePoint → Type 0) → Type 0
Common d S T = Some d (λ q. S q × T q)
