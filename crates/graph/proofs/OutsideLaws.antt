-- In an allowed net no vertex is in a macro's interior: a pin by the check, and a corner because the macro around it would overlap the
-- corner's own.
-- Assumes nothing.
use lib.IntN.{ℤ}
use Rattle.lists.specs.Member.{◌∈◌}
use Rattle.lists.proofs.TestLaws.{either}
use Rattle.lists.proofs.EachLaws.{Piece}
use Rattle.signed.specs.Sides.{Le}
use Rattle.signed.proofs.SideLaws.{signed}
use Rattle.plane.specs.declared.Place.{Place}
use Rattle.plane.specs.declared.Macro.{Macro}
use Rattle.plane.specs.Place.{place}
use Rattle.plane.proofs.MeetLaws.{Overlap, InInterior}
use Rattle.net.specs.Net.{Net}
use Rattle.net.specs.Allowed.{Allowed}
use Rattle.net.proofs.ApartLaws.{SidesInOrder, sides-in-order, overlap-one, pin-outside}
use Rattle.graph.specs.Vertices.{corners_of}
use Rattle.graph.specs.Spanning.{vertices_of}
use Rattle.graph.proofs.VertexLaws.{at-corner, of-vertices}

-- c is on the closed box of m and not in its interior
record Rim (m : Macro) (c : Place) : Type 0 where
  left : Le m.left c.x
  right : Le c.x m.right
  bottom : Le m.bottom c.y
  top : Le c.y m.top
  not_within : InInterior c m → ⊥

module _ (m : Macro) (s : SidesInOrder m) where
  on-left : (y : ℤ) → Le m.bottom y → Le y m.top → Rim m (place m.left y)
  on-left y b t = record { left = omega signed; right = omega signed; bottom = b; top = t; not_within = λ h. omega signed }

  on-right : (y : ℤ) → Le m.bottom y → Le y m.top → Rim m (place m.right y)
  on-right y b t = record { left = omega signed; right = omega signed; bottom = b; top = t; not_within = λ h. omega signed }

  corner-rim : (c : Place) → c ∈ corners_of m → Rim m c
  corner-rim =
      at-corner m (Rim m)
      (on-left m.bottom (omega signed) (omega signed))
      (on-left m.top (omega signed) (omega signed))
      (on-right m.bottom (omega signed) (omega signed))
      (on-right m.top (omega signed) (omega signed))

module _ {net : Net} (a : Allowed net) where
  corner-outside : (c : Place) → Piece corners_of net.macros c → (m : Macro) → m ∈ net.macros → InInterior c m → ⊥
  corner-outside c p m i h =
      let n = p.entry in
      let r = corner-rim n (sides-in-order a n p.stands) c p.holds in
      let o : Overlap m n = record { left = omega signed; right = omega signed; bottom = omega signed; top = omega signed } in
      r.not_within (rw (overlap-one a m n i p.stands o) at h)

  pub vertex-outside : (u : Place) → u ∈ vertices_of net → (m : Macro) → m ∈ net.macros → InInterior u m → ⊥
  vertex-outside u k = either (pin-outside a u) (corner-outside u) (of-vertices net k)
