-- What an allowed net says of its macros and pins, as inequalities: a macro's sides are in order, macros that overlap are one, and no pin
-- is in an interior.
-- Assumes nothing.
use mathlib.Core.Path.{◌≡◌}
use Rattle.lists.specs.Member.{◌∈◌}
use Rattle.lists.proofs.TestLaws.{differ}
use Rattle.lists.proofs.TwoLaws.{no-two-one}
use Rattle.signed.specs.Sides.{Lt}
use Rattle.signed.proofs.SideLaws.{z_lt-true}
use Rattle.plane.specs.declared.Place.{Place}
use Rattle.plane.specs.declared.Macro.{Macro}
use Rattle.plane.specs.Macro.{interiors_meet}
use Rattle.plane.proofs.MacroLaws.{interiors-comm}
use Rattle.plane.proofs.MeetLaws.{Overlap, overlap-meets, InInterior, interior-inside}
use Rattle.net.specs.Net.{Net}
use Rattle.net.specs.Allowed.{Allowed}

-- left below right, bottom below top
pub record SidesInOrder (m : Macro) : Type 0 where
  pub across : Lt m.left m.right
  pub along : Lt m.bottom m.top

module _ {net : Net} (a : Allowed net) where
  pub sides-in-order : (m : Macro) → m ∈ net.macros → SidesInOrder m
  sides-in-order m i = let u = a.upright m i in record { across = z_lt-true _ _ u.across; along = z_lt-true _ _ u.along }

  pub overlap-one : (m n : Macro) → m ∈ net.macros → n ∈ net.macros → Overlap m n → m ≡ n
  overlap-one m n i j o =
      let s = sides-in-order m i in
      let t = sides-in-order n j in
      no-two-one interiors_meet interiors-comm net.macros a.macros-apart m n i j
      (overlap-meets m n s.across s.along t.across t.along o)

  pub pin-outside : (p : Place) → p ∈ net.pins → (m : Macro) → m ∈ net.macros → InInterior p m → ⊥
  pin-outside p i m j h = differ (interior-inside p m h) (a.pins-outside p i m j)
