-- The range of coordinates as a box: what lies in the box of two places in range is in range, and so is what lies in the box of all.
-- Assumes nothing.
use mathlib.Core.Path.{◌≡◌, refl}
use mathlib.Core.Bool.{false}
use lib.IntN.{ℤ, pos, neg_ℤ}
use lib.Signed.{lt_z}
use Rattle.lists.proofs.TestLaws.{or-none, or-neither}
use Rattle.signed.specs.Sides.{Le}
use Rattle.signed.proofs.SideLaws.{z_lt-false, le-z_lt, signed}
use Rattle.signed.proofs.OrderLaws.{min-sides, max-sides}
use Rattle.plane.specs.declared.Place.{Place}
use Rattle.plane.specs.Place.{place}
use Rattle.plane.specs.Box.{Between, InBox}
use Rattle.net.specs.Bounds.{coordinate_bound}
use Rattle.net.specs.Tests.{out_of_range}
use Rattle.net.specs.Allowed.{PlaceInRange}

abbrev lowest : ℤ
lowest = neg_ℤ (pos coordinate_bound)

abbrev highest : ℤ
highest = pos coordinate_bound

number-range : (z : ℤ) → out_of_range z ≡ false → Le lowest z × Le z highest
unfolding out_of_range
number-range z e =
    let r = or-none (lt_z z lowest) (lt_z highest z) e in
    (z_lt-false z lowest r.0, z_lt-false highest z r.1)

range-number : (z : ℤ) → Le lowest z → Le z highest → out_of_range z ≡ false
unfolding out_of_range
range-number z h k = or-neither _ _ (le-z_lt z lowest h) (le-z_lt highest z k)

between-range : (z x y : ℤ) → Between z x y → out_of_range x ≡ false → out_of_range y ≡ false → out_of_range z ≡ false
between-range z x y b h k =
    let p = number-range x h in
    let q = number-range y k in
    range-number z
    (omega (signed, b.0, p.0, q.0, min-sides x y)) (omega (signed, b.1, p.1, q.1, max-sides x y))

pub box-range : (s a b : Place) → InBox s a b → PlaceInRange a → PlaceInRange b → PlaceInRange s
box-range s a b i p q = record {
  x = between-range s.x a.x b.x i.across p.x q.x;
  y = between-range s.y a.y b.y i.along p.y q.y;
}

-- the box of all coordinates
abbrev pub least_place : Place
least_place = place lowest lowest

abbrev pub greatest_place : Place
greatest_place = place highest highest

range-between : (z : ℤ) → out_of_range z ≡ false → Between z lowest highest
range-between z e =
    let r = number-range z e in
    (omega (signed, r.0, min-sides lowest highest), omega (signed, r.1, max-sides lowest highest))

pub range-box : (p : Place) → PlaceInRange p → InBox p least_place greatest_place
range-box p r = record { across = range-between p.x r.x; along = range-between p.y r.y }

ends-range : (out_of_range lowest ≡ false) × (out_of_range highest ≡ false)
unfolding out_of_range
ends-range = (refl, refl)

corner-places : PlaceInRange least_place × PlaceInRange greatest_place
corner-places = (record { x = ends-range.0; y = ends-range.0 }, record { x = ends-range.1; y = ends-range.1 })

pub box-in-range : (p : Place) → InBox p least_place greatest_place → PlaceInRange p
box-in-range p i = box-range p least_place greatest_place i corner-places.0 corner-places.1
