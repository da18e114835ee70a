-- What a bar sees by the tables is what the definitions say of places: the tests of an edge in turned numbers are those in places.
-- Assumes nothing.
use mathlib.Core.Path.{◌≡◌, ap₂, ◌∙◌}
use mathlib.Core.Bool.{Bool, ◌&&◌, ◌||◌}
use Prim.Native.Nat.{ℕ, ◌<◌}
use native.Mathlib.Omega.{arith}
use lib.Dec.{ltb}
use lib.IntN.{ℤ, ◌-ℤ◌}
use lib.ListN.{get_or}
use lib.Signed.{lt_z}
use Rattle.signed.proofs.SideLaws.{one_side, sub-sides, abs-sides}
use Rattle.plane.specs.declared.Place.{Place}
use Rattle.plane.specs.Distance.{apart}
use Rattle.plane.specs.Flat.{place_at}
use Rattle.plane.proofs.Fits.{PlaceFits}
use Rattle.slide.specs.declared.Side.{Side}
use Rattle.slide.specs.declared.Side.TheVariants.{Above, Below, Right, Left}
use Rattle.slide.specs.Side.{along, across}
use Rattle.slide.specs.Bend.{Edge}
use Rattle.slide.specs.Bar.{level, ahead, behind, long}
use Rattle.straight.specs.Table.{first_end, second_end, edge_at}
use Rattle.turned.specs.Turned.{raised, View, on_it, seen_edge, level_at, ahead_of, behind_of, gap, long_of}
use Rattle.turned.proofs.RaisedLaws.{High, high, high-turned, raised_lt, raised-eq}

pub across-high : (s : Side) (p : Place) → PlaceFits p → High (across s p)
unfolding across
across-high Above p f = high p.y f.y
across-high Below p f = high-turned p.y f.y
across-high Right p f = high p.x f.x
across-high Left p f = high-turned p.x f.x

pub along-high : (s : Side) (p : Place) → PlaceFits p → High (along s p)
unfolding along
along-high Above p f = high p.x f.x
along-high Below p f = high p.x f.x
along-high Right p f = high p.y f.y
along-high Left p f = high p.y f.y

pub raised-apart : (a b : ℤ) → High a → High b → apart a b ≡ gap (raised a) (raised b)
unfolding apart raised
raised-apart a b h k = omega (arith, h, k, abs-sides (a -ℤ b), sub-sides a b, one_side (a -ℤ b))

-- The tables are seen with n points, e edges, and the test `on` for the bar's points
pub record Sees (v : View) (n e : ℕ) (on : Place → Bool) : Type 0 where
  pub is : (i : ℕ) → i < n → on (place_at v.points i) ≡ on_it v i
  pub within : (k : ℕ) → k < e → (first_end (get_or v.keys k 0) < n) × (second_end (get_or v.keys k 0) < n)
  pub fits : (i : ℕ) → i < n → PlaceFits (place_at v.points i)

module _ {v : View} {n e : ℕ} {on : Place → Bool} (r : Sees v n e on) (k : ℕ) (h : k < e) where
  abbrev s : Side
  s = v.side

  abbrev x : Edge
  x = edge_at v.points v.keys k

  abbrev a : ℕ
  a = first_end (get_or v.keys k 0)

  abbrev b : ℕ
  b = second_end (get_or v.keys k 0)

  first-is : on x.0 ≡ on_it v a
  first-is = r.is a (r.within k h).0

  second_is : on x.1 ≡ on_it v b
  second_is = r.is b (r.within k h).1

  high-a : High (across s x.0)
  high-a = across-high s x.0 (r.fits a (r.within k h).0)

  high-b : High (across s x.1)
  high-b = across-high s x.1 (r.fits b (r.within k h).1)

  lower : lt_z (across s x.0) (across s x.1) ≡ ltb (raised (across s x.0)) (raised (across s x.1))
  lower = raised_lt (across s x.0) (across s x.1) high-a high-b

  higher : lt_z (across s x.1) (across s x.0) ≡ ltb (raised (across s x.1)) (raised (across s x.0))
  higher = raised_lt (across s x.1) (across s x.0) high-b high-a

  abbrev either_way : Bool → Bool → Bool → Bool → Bool
  either_way p l q m = (p && l) || (q && m)

  pub ahead-is : ahead s on x ≡ ahead_of (seen_edge v k)
  unfolding ahead ahead_of
  ahead-is =
      ap₂ (λ (p q : Bool). either_way p (lt_z (across s x.0) (across s x.1)) q (lt_z (across s x.1) (across s x.0)))
      first-is second_is
      ∙ ap₂ (λ (l m : Bool). either_way (on_it v a) l (on_it v b) m) lower higher

  pub behind-is : behind s on x ≡ behind_of (seen_edge v k)
  unfolding behind behind_of
  behind-is =
      ap₂ (λ (p q : Bool). either_way p (lt_z (across s x.1) (across s x.0)) q (lt_z (across s x.0) (across s x.1)))
      first-is second_is
      ∙ ap₂ (λ (l m : Bool). either_way (on_it v a) l (on_it v b) m) higher lower

  pub long-is : long s x ≡ long_of (seen_edge v k)
  unfolding long
  long-is = raised-apart (across s x.0) (across s x.1) high-a high-b

  pub level-is : level s x ≡ level_at s v.points v.keys k
  unfolding level level_at
  level-is = raised-eq (across s x.0) (across s x.1) high-a high-b
