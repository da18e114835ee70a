-- Boxes within boxes: what lies in the box of two places that are clear of each other is clear too. The middle place of three lies in the
-- box of each two of them, so it is clear of what they are clear of.
-- Assumes nothing.
use mathlib.Core.Path.{◌≡◌, refl}
use mathlib.Core.Bool.{true, false}
use mathlib.Core.List.{List}
use Prim.Native.Nat.{◌+◌}
use borrow.Author.Tests.{not-true}
use lib.IntN.{ℤ}
use lib.Signed.{lt_z}
use Rattle.lists.specs.Any.{any}
use Rattle.lists.proofs.TestLaws.{contrapose, and_left, and_right, and_both}
use Rattle.lists.proofs.AnyLaws.{any_none, none_any}
use Rattle.signed.specs.Order.{z_min, z_max}
use Rattle.signed.proofs.SideLaws.{z_lt-true, lt-z_lt, signed}
use Rattle.signed.proofs.OrderLaws.{min-sides, max-sides}
use Rattle.plane.specs.declared.Place.{Place}
use Rattle.plane.specs.declared.Macro.{Macro}
use Rattle.plane.specs.Box.{Between, InBox}
use Rattle.plane.specs.Distance.{distance}
use Rattle.plane.specs.Middle.{middle_place}
use Rattle.plane.specs.Macro.{span_meets, meets, clear}
use Rattle.plane.proofs.DistanceLaws.{apart-through}
use Rattle.plane.proofs.MiddleLaws.{middle-first, middle-outer, middle-last}

pub first-in-box : (a b : Place) → InBox a a b
first-in-box a b = record {
  across = (omega (signed, min-sides a.x b.x), omega (signed, max-sides a.x b.x));
  along = (omega (signed, min-sides a.y b.y), omega (signed, max-sides a.y b.y));
}

pub last-in-box : (a b : Place) → InBox b a b
last-in-box a b = record {
  across = (omega (signed, min-sides a.x b.x), omega (signed, max-sides a.x b.x));
  along = (omega (signed, min-sides a.y b.y), omega (signed, max-sides a.y b.y));
}

-- a span within a span meets no more
low-within : (c d a b to : ℤ) → Between c a b → Between d a b → lt_z (z_min c d) to ≡ true → lt_z (z_min a b) to ≡ true
low-within c d a b to i j h = lt-z_lt (z_min a b) to (omega (signed, z_lt-true (z_min c d) to h, i.0, j.0, min-sides c d))

high-within : (c d a b from : ℤ) → Between c a b → Between d a b → lt_z from (z_max c d) ≡ true → lt_z from (z_max a b) ≡ true
high-within c d a b from i j h = lt-z_lt from (z_max a b) (omega (signed, z_lt-true from (z_max c d) h, i.1, j.1, max-sides c d))

span-within : (c d a b from to : ℤ) → Between c a b → Between d a b → span_meets c d from to ≡ true → span_meets a b from to ≡ true
unfolding span_meets
span-within c d a b from to i j h =
    and_both _ _
    (low-within c d a b to i j (and_left _ (lt_z from (z_max c d)) h))
    (high-within c d a b from i j (and_right (lt_z (z_min c d) to) _ h))

module _ (c d a b : Place) (i : InBox c a b) (j : InBox d a b) where
  meets-within : (m : Macro) → meets c d m ≡ true → meets a b m ≡ true
  unfolding meets
  meets-within m h =
      and_both _ _
      (span-within _ _ _ _ _ _ i.across j.across (and_left _ (span_meets c.y d.y m.bottom m.top) h))
      (span-within _ _ _ _ _ _ i.along j.along (and_right (span_meets c.x d.x m.left m.right) _ h))

  pub clear_within : (ms : List Macro) → clear a b ms ≡ true → clear c d ms ≡ true
  unfolding clear
  clear_within ms h =
      let none = any_none (meets a b) ms (not-true _ h) in
      let e : any (meets c d) ms ≡ false = none_any (meets c d) ms (λ m k. contrapose _ _ (meets-within m) (none m k)) in
      rw e refl

-- a way through a place in the box is no longer
pub distance-through : (s a b : Place) → InBox s a b → distance s a + distance s b ≡ distance a b
unfolding distance
distance-through s a b i =
    omega (signed, apart-through s.x a.x b.x i.across, apart-through s.y a.y b.y i.along)

module _ (a b u : Place) where
  pub middle-in-first : InBox (middle_place a b u) a b
  unfolding middle_place
  middle-in-first = record { across = middle-first a.x b.x u.x; along = middle-first a.y b.y u.y }

  pub middle-in-outer : InBox (middle_place a b u) a u
  unfolding middle_place
  middle-in-outer = record { across = middle-outer a.x b.x u.x; along = middle-outer a.y b.y u.y }

  pub middle-in-last : InBox (middle_place a b u) b u
  unfolding middle_place
  middle-in-last = record { across = middle-last a.x b.x u.x; along = middle-last a.y b.y u.y }

  -- clear of what two of the three are clear of
  pub middle-clear-first : (ms : List Macro) → clear a b ms ≡ true → (clear (middle_place a b u) a ms ≡ true)
      × (clear (middle_place a b u) b ms ≡ true)
  middle-clear-first ms h = (
    clear_within _ _ a b middle-in-first (first-in-box a b) ms h,
    clear_within _ _ a b middle-in-first (last-in-box a b) ms h,
  )

  pub middle-clear-outer : (ms : List Macro) → clear a u ms ≡ true → clear (middle_place a b u) u ms ≡ true
  middle-clear-outer ms h = clear_within _ _ a u middle-in-outer (last-in-box a u) ms h

  pub middle-clear-last : (ms : List Macro) → clear b u ms ≡ true → clear (middle_place a b u) u ms ≡ true
  middle-clear-last ms h = clear_within _ _ b u middle-in-last (last-in-box b u) ms h
