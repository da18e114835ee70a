-- A place moved to each of the four sides: the coordinate that changes, and that it fits.
-- Assumes nothing.
use mathlib.Core.Path.{◌≡◌, ap₂}
use Prim.Native.Nat.{ℕ, ◌^◌, ◌<◌}
use lib.IntN.{ℤ, pos, ◌+ℤ◌, ◌-ℤ◌}
use mir.Syntax.{w32}
use mir.Val.{SFits, to_z}
use mir.ValLaws.{to_z-of_z}
use Rattle.plane.specs.declared.Place.{Place}
use Rattle.plane.specs.Place.{place}
use Rattle.slide.specs.declared.Side.{Side}
use Rattle.slide.specs.declared.Side.TheVariants.{Above, Below, Right, Left}
use Rattle.slide.specs.Side.{moved}
use Rattle.shifted.specs.Shift.{MoveFits}

-- a distance as a signed number
pub word : (d : ℕ) → d < 2 ^ 31 → to_z w32 d ≡ pos d
word d h = to_z-of_z w32 (pos d) (record { sfits = h })

module _ (s : Side) (d : ℕ) (p : Place) where
  pub fits-above : s ≡ Above → MoveFits s d p → SFits w32 (p.y +ℤ pos d)
  unfolding moved
  fits-above e h = let g : MoveFits Above d p = rw e at h in g.y

  pub fits_below : s ≡ Below → MoveFits s d p → SFits w32 (p.y -ℤ pos d)
  unfolding moved
  fits_below e h = let g : MoveFits Below d p = rw e at h in g.y

  pub fits-right : s ≡ Right → MoveFits s d p → SFits w32 (p.x +ℤ pos d)
  unfolding moved
  fits-right e h = let g : MoveFits Right d p = rw e at h in g.x

  pub fits-left : s ≡ Left → MoveFits s d p → SFits w32 (p.x -ℤ pos d)
  unfolding moved
  fits-left e h = let g : MoveFits Left d p = rw e at h in g.x

  -- what the arms of the code make
  pub is-above : s ≡ Above → (x y : ℤ) → x ≡ p.x → y ≡ p.y +ℤ pos d → place x y ≡ moved s d p
  unfolding moved
  is-above e x y u v = rw e (ap₂ place u v)

  pub is_below : s ≡ Below → (x y : ℤ) → x ≡ p.x → y ≡ p.y -ℤ pos d → place x y ≡ moved s d p
  unfolding moved
  is_below e x y u v = rw e (ap₂ place u v)

  pub is_right : s ≡ Right → (x y : ℤ) → x ≡ p.x +ℤ pos d → y ≡ p.y → place x y ≡ moved s d p
  unfolding moved
  is_right e x y u v = rw e (ap₂ place u v)

  pub is-left : s ≡ Left → (x y : ℤ) → x ≡ p.x -ℤ pos d → y ≡ p.y → place x y ≡ moved s d p
  unfolding moved
  is-left e x y u v = rw e (ap₂ place u v)
