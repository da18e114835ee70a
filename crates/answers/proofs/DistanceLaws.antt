-- The distances on the grid among the operations: the answer by its cases (C36, C77).
-- Assumes nothing.
use mathlib.Core.Path.{◌≡◌, refl, ap₂}
use mathlib.Core.Bool.{true, false, ◌||◌}
use mathlib.Core.List.{List}
use Prim.Native.Nat.{ℕ, ◌*◌, ◌≤◌, ◌<◌}
use borrow.Author.Tests.{le-ltb}
use lib.Dec.{ltb}
use lib.IntN.{ℤ}
use Rattle.lists.proofs.TestLaws.{or-neither}
use Rattle.lent.specs.Told.{given, refused}
use Rattle.net.specs.declared.Weighing.{Weighing}
use Rattle.net.specs.Pins.{pin_count, macro_count}
use Rattle.lines.specs.Bounds.{grid_pins, grid_macros}
use Rattle.answers.specs.Distances.{above_grid, distances_given}
use Rattle.answers.proofs.AnswerLaws.{room-short, room-enough}

module _ (w : Weighing) (pins macros : List ℤ) (room : ℕ) where
  pub grid-above : above_grid pins macros ≡ true → distances_given w pins macros room ≡ refused 36
  unfolding distances_given
  grid-above h = rw h refl

  module _ (h : above_grid pins macros ≡ false) where
    pub grid-short : room < pin_count pins * pin_count pins → distances_given w pins macros room ≡ refused 21
    unfolding distances_given
    grid-short k = rw h (room-short (pin_count pins * pin_count pins) room (pin_count pins * pin_count pins) k)

    pub grid-enough : pin_count pins * pin_count pins ≤ room → distances_given w pins macros room ≡ given (pin_count pins * pin_count pins)
    unfolding distances_given
    grid-enough k = rw h (room-enough (pin_count pins * pin_count pins) room (pin_count pins * pin_count pins) k)

pub within-grid : (pins macros : List ℤ) → pin_count pins ≤ grid_pins → macro_count macros ≤ grid_macros → above_grid pins macros ≡ false
unfolding above_grid
within-grid pins macros h k = or-neither _ _ (le-ltb grid_pins (pin_count pins) h) (le-ltb grid_macros (macro_count macros) k)

-- the test of the code, by what the check has counted
pub above_of : (pins macros : List ℤ) (m k : ℕ) → m ≡ pin_count pins → k ≡ macro_count macros →
    (ltb grid_pins m || ltb grid_macros k) ≡ above_grid pins macros
unfolding above_grid
above_of pins macros m k e f = ap₂ (λ (a b : ℕ). ltb grid_pins a || ltb grid_macros b) e f
