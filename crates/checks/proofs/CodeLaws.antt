-- Which number an answer has: weights that pass are never what a net is refused for.
-- Assumes nothing.
use mathlib.Core.Path.{◌≡◌, refl}
use mathlib.Core.Bool.{Bool, true, false, cond, ◌||◌}
use mathlib.Core.List.{List}
use Prim.Native.Nat.{ℕ}
use borrow.Author.Tests.{eqb-false}
use lib.Dec.{eqb}
use lib.IntN.{ℤ}
use Rattle.lists.specs.Any.{any, any_two}
use Rattle.lent.specs.Told.{Told, refused, given, code}
use Rattle.plane.specs.Place.{same_place}
use Rattle.plane.specs.Macro.{interiors_meet}
use Rattle.plane.specs.Flat.{macros_of}
use Rattle.net.specs.declared.Weighing.{Weighing}
use Rattle.net.specs.declared.Net.{Net as Counts}
use Rattle.net.specs.Pins.{pin_places}
use Rattle.net.specs.Counts.{counts_of}
use Rattle.net.specs.Tests.{pins_miscounted, macros_miscounted, out_of_range, pins_out_of_range, not_upright, inside_any, weights_wrong}
use Rattle.checks.specs.Check.{checked, checked_within}

no_number : (net : Counts) (n : ℕ) → eqb 0 n ≡ false → code (given net) ≡ n → ⊥
unfolding code
no_number net n d e = eqb-false 0 n d e

pub one_number : (m n : ℕ) → eqb m n ≡ false → code {A = Counts} (refused m) ≡ n → ⊥
unfolding code
one_number m n d e = eqb-false m n d e

-- where a test has another number than n, and what follows it does not answer n, both together do not
pub another : (t : Bool) (m n : ℕ) (next : Told Counts) → eqb m n ≡ false → (code next ≡ n → ⊥) → code (cond t (refused m) next) ≡ n
    → ⊥
another true m n next d f = one_number m n d
another false m n next d f = f

-- C18: weights that pass are never what a net is refused for
pub not-18 : (w : Weighing) (pins macros : List ℤ) → weights_wrong w ≡ false → code (checked w pins macros) ≡ 18 → ⊥
unfolding checked_within
not-18 w pins macros e =
    rw e
    (another (pins_miscounted pins) 11 18 _ refl
    (another (macros_miscounted macros) 12 18 _ refl
    (another (pins_out_of_range pins || any out_of_range macros) 13 18 _ refl
    (another (any not_upright (macros_of macros)) 14 18 _ refl
    (another (any_two same_place (pin_places pins)) 15 18 _ refl
    (another (any_two interiors_meet (macros_of macros)) 16 18 _ refl
    (another (any (inside_any (macros_of macros)) (pin_places pins)) 17 18 _ refl (no_number (counts_of w pins macros) 18 refl))))))))
