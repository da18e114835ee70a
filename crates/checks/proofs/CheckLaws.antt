-- The check a test at a time: past the tests before it, a test that applies gives its number; past all of them the net is allowed.
-- Assumes nothing.
use mathlib.Core.Path.{◌≡◌, refl, ◌∙◌}
use mathlib.Core.Bool.{true, false, cond}
use mathlib.Core.List.{List}
use lib.IntN.{ℤ}
use Rattle.lists.specs.Any.{any, any_two}
use Rattle.plane.specs.Place.{same_place}
use Rattle.plane.specs.Macro.{interiors_meet}
use Rattle.plane.specs.Flat.{macros_of}
use Rattle.lent.specs.Told.{refused, given}
use Rattle.net.specs.Pins.{pin_places}
use Rattle.net.specs.declared.Weighing.{Weighing}
use Rattle.net.specs.Counts.{counts_of}
use Rattle.net.specs.Tests.{pins_miscounted, macros_miscounted, out_of_range, pins_out_of_range, not_upright, inside_any, weights_wrong}
use Rattle.checks.specs.Check.{checked, checked_within}

module _ (w : Weighing) (pins macros : List ℤ) where
  -- no number up to the one named applies; 13 is tested list by list
  pub record Past11 : Type 0 where
    pub passed : pins_miscounted pins ≡ false

  pub record Past12 : Type 0 where
    pub past : Past11
    pub passed : macros_miscounted macros ≡ false

  pub record Past13-pins : Type 0 where
    pub past : Past12
    pub passed : pins_out_of_range pins ≡ false

  pub record Past13 : Type 0 where
    pub past : Past13-pins
    pub passed : any out_of_range macros ≡ false

  pub record Past14 : Type 0 where
    pub past : Past13
    pub passed : any not_upright (macros_of macros) ≡ false

  pub record Past15 : Type 0 where
    pub past : Past14
    pub passed : any_two same_place (pin_places pins) ≡ false

  pub record Past16 : Type 0 where
    pub past : Past15
    pub passed : any_two interiors_meet (macros_of macros) ≡ false

  pub record Past17 : Type 0 where
    pub past : Past16
    pub passed : any (inside_any (macros_of macros)) (pin_places pins) ≡ false

  pub record Past18 : Type 0 where
    pub past : Past17
    pub passed : weights_wrong w ≡ false

  pub refuse-11 : pins_miscounted pins ≡ true → checked w pins macros ≡ refused 11
  unfolding checked_within
  refuse-11 e = rw e refl

  pub refuse-12 : Past11 → macros_miscounted macros ≡ true → checked w pins macros ≡ refused 12
  unfolding checked_within
  refuse-12 p e = rw (p.passed, e) refl

  pub refuse-13-pins : Past12 → pins_out_of_range pins ≡ true → checked w pins macros ≡ refused 13
  unfolding checked_within
  refuse-13-pins p e = rw (p.past.passed, p.passed, e) refl

  pub refuse-13 : Past13-pins → any out_of_range macros ≡ true → checked w pins macros ≡ refused 13
  unfolding checked_within
  refuse-13 p e = rw (p.past.past.passed, p.past.passed, p.passed, e) refl

  pub refuse-14 : Past13 → any not_upright (macros_of macros) ≡ true → checked w pins macros ≡ refused 14
  unfolding checked_within
  refuse-14 p e = rw (p.past.past.past.passed, p.past.past.passed, p.past.passed, p.passed, e) refl

  pub refuse-15 : Past14 → any_two same_place (pin_places pins) ≡ true → checked w pins macros ≡ refused 15
  unfolding checked_within
  refuse-15 p e =
      let q = p.past in
      rw (q.past.past.past.passed, q.past.past.passed, q.past.passed, q.passed, p.passed, e) refl

  pub refuse-16 : Past15 → any_two interiors_meet (macros_of macros) ≡ true → checked w pins macros ≡ refused 16
  unfolding checked_within
  refuse-16 p e =
      let q = p.past.past in
      rw (q.past.past.past.passed, q.past.past.passed, q.past.passed, q.passed, p.past.passed, p.passed, e) refl

  pub refuse-17 : Past16 → any (inside_any (macros_of macros)) (pin_places pins) ≡ true → checked w pins macros ≡ refused 17
  unfolding checked_within
  refuse-17 p e =
      let q = p.past.past.past in
      rw (
        q.past.past.past.passed,
        q.past.past.passed,
        q.past.passed,
        q.passed,
        p.past.past.passed,
        p.past.passed,
        p.passed,
        e,
      ) refl

  -- past 17, what is left is the test of the weights
  past-17 : Past17 → checked w pins macros ≡ cond (weights_wrong w) (refused 18) (given (counts_of w pins macros))
  unfolding checked_within
  past-17 p =
      let q = p.past.past.past.past in
      rw (
        q.past.past.past.passed,
        q.past.past.passed,
        q.past.passed,
        q.passed,
        p.past.past.past.passed,
        p.past.past.passed,
        p.past.passed,
        p.passed,
      ) refl

  pub refuse-18 : Past17 → weights_wrong w ≡ true → checked w pins macros ≡ refused 18
  refuse-18 p e = past-17 p ∙ rw e refl

  pub allow : Past18 → checked w pins macros ≡ given (counts_of w pins macros)
  allow p = past-17 p.past ∙ rw p.passed refl
