-- What an allowed net has passed: every test.
-- Assumes nothing.
use mathlib.Core.Path.{◌≡◌, sym, ◌∙◌}
use mathlib.Core.List.{List}
use Prim.Native.Nat.{ℕ}
use lib.IntN.{ℤ}
use Rattle.lent.specs.Told.{refused, given}
use Rattle.lent.proofs.AfterLaws.{told-apart}
use Rattle.lists.specs.Any.{any, any_two}
use Rattle.lists.proofs.TestLaws.{by}
use Rattle.plane.specs.Place.{same_place}
use Rattle.plane.specs.Macro.{interiors_meet}
use Rattle.plane.specs.Flat.{macros_of}
use Rattle.net.specs.declared.Net.{Net}
use Rattle.net.specs.Pins.{pin_places}
use Rattle.net.specs.declared.Weighing.{Weighing}
use Rattle.net.specs.Tests.{pins_miscounted, macros_miscounted, out_of_range, pins_out_of_range, not_upright, inside_any, weights_wrong}
use Rattle.checks.specs.Check.{checked}
use Rattle.checks.proofs.CheckLaws.{Past11, Past12, Past13-pins, Past13, Past14, Past15, Past16, Past17, Past18, refuse-11}
use Rattle.checks.proofs.CheckLaws.{refuse-12, refuse-13-pins, refuse-13, refuse-14, refuse-15, refuse-16, refuse-17, refuse-18}

module _ (w : Weighing) (pins macros : List ℤ) (net : Net) (allowed : checked w pins macros ≡ given net) where
  -- a refusal is no allowance
  apart : {C : Type 0} (n : ℕ) → checked w pins macros ≡ refused n → C
  apart n e = told-apart n net (sym e ∙ allowed)

  past-11 : Past11 w pins macros
  past-11 = by (pins_miscounted pins) (λ e. apart 11 (refuse-11 w pins macros e)) (λ e. record { passed = e })

  past-12 : Past12 w pins macros
  past-12 = by (macros_miscounted macros) (λ e. apart 12 (refuse-12 w pins macros past-11 e)) (λ e. record { past = past-11; passed = e })

  past-13-pins : Past13-pins w pins macros
  past-13-pins = by (pins_out_of_range pins) (λ e. apart 13 (refuse-13-pins w pins macros past-12 e))
      (λ e. record { past = past-12; passed = e })

  past-13 : Past13 w pins macros
  past-13 =
      by (any out_of_range macros)
      (λ e. apart 13 (refuse-13 w pins macros past-13-pins e))
      (λ e. record { past = past-13-pins; passed = e })

  past-14 : Past14 w pins macros
  past-14 =
      by (any not_upright (macros_of macros))
      (λ e. apart 14 (refuse-14 w pins macros past-13 e))
      (λ e. record { past = past-13; passed = e })

  past-15 : Past15 w pins macros
  past-15 =
      by (any_two same_place (pin_places pins))
      (λ e. apart 15 (refuse-15 w pins macros past-14 e))
      (λ e. record { past = past-14; passed = e })

  past-16 : Past16 w pins macros
  past-16 =
      by (any_two interiors_meet (macros_of macros))
      (λ e. apart 16 (refuse-16 w pins macros past-15 e))
      (λ e. record { past = past-15; passed = e })

  past-17 : Past17 w pins macros
  past-17 =
      by (any (inside_any (macros_of macros)) (pin_places pins))
      (λ e. apart 17 (refuse-17 w pins macros past-16 e))
      (λ e. record { past = past-16; passed = e })

  -- an allowed net has passed every test
  pub passed-all : Past18 w pins macros
  passed-all = by (weights_wrong w) (λ e. apart 18 (refuse-18 w pins macros past-17 e)) (λ e. record { past = past-17; passed = e })
