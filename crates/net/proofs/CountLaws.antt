-- What the tests of the counts say, both ways: lists of whole entries, and numbers of them within the bounds.
-- Assumes nothing.
use mathlib.Core.Path.{◌≡◌, ap}
use mathlib.Core.Bool.{false, not}
use mathlib.Core.List.{List}
use Prim.Native.Nat.{◌%◌, ◌≤◌}
use native.Mathlib.Omega.{arith}
use borrow.Author.Tests.{eq-eqb, ne_eqb, le-ltb, eqb-true, eqb-false, ltb-false, not-false}
use lib.IntN.{ℤ}
use lib.ListN.{length}
use Rattle.lists.proofs.TestLaws.{or-none, or-neither}
use Rattle.net.specs.Bounds.{pin_bound, macro_bound, pin_width, macro_width}
use Rattle.net.specs.Pins.{pin_count, macro_count}
use Rattle.net.specs.Tests.{pins_miscounted, pins_miscounted_within, macros_miscounted, macros_miscounted_within}

-- lists of whole entries, within the bounds
pub record PinsCounted (pins : List ℤ) : Type 0 where
  pub whole : length pins % pin_width ≡ 0
  pub some : 1 ≤ pin_count pins
  pub few : pin_count pins ≤ pin_bound

pub record MacrosCounted (macros : List ℤ) : Type 0 where
  pub whole : length macros % macro_width ≡ 0
  pub few : macro_count macros ≤ macro_bound

pub pins-counted : (pins : List ℤ) → pins_miscounted pins ≡ false → PinsCounted pins
unfolding pins_miscounted_within
pins-counted pins e =
    let r = or-none _ _ e in
    let s = or-none _ _ r.1 in
    let n : pin_count pins ≡ 0 → ⊥ = eqb-false (pin_count pins) 0 s.0 in
    record {
      whole = eqb-true (length pins % pin_width) 0 (not-false _ r.0);
      some = omega (arith, n);
      few = ltb-false pin_bound (pin_count pins) s.1;
    }

pub macros-counted : (macros : List ℤ) → macros_miscounted macros ≡ false → MacrosCounted macros
unfolding macros_miscounted_within
macros-counted macros e =
    let r = or-none _ _ e in
    record { whole = eqb-true (length macros % macro_width) 0 (not-false _ r.0); few = ltb-false macro_bound (macro_count macros) r.1 }

-- and the other way
module _ (s : List ℤ) where
  pub threes-whole : length s % pin_width ≡ 0 → 1 ≤ pin_count s → pin_count s ≤ pin_bound → pins_miscounted s ≡ false
  unfolding pins_miscounted_within
  threes-whole e l h =
      or-neither _ _ (ap not (eq-eqb (length s % pin_width) 0 e))
      (or-neither _ _ (ne_eqb (pin_count s) 0 (λ z. omega arith)) (le-ltb pin_bound (pin_count s) h))

  pub fours-whole : length s % macro_width ≡ 0 → macro_count s ≤ macro_bound → macros_miscounted s ≡ false
  unfolding macros_miscounted_within
  fours-whole e h = or-neither _ _ (ap not (eq-eqb (length s % macro_width) 0 e)) (le-ltb macro_bound (macro_count s) h)
