-- The best tree among the operations: the answer by its cases (C41, C87).
-- Assumes nothing.
use mathlib.Core.Path.{◌≡◌, refl, ap₂}
use mathlib.Core.Bool.{true, false, ◌||◌}
use mathlib.Core.List.{List}
use Prim.Native.Nat.{ℕ, ◌≤◌}
use borrow.Author.Tests.{le-ltb, ltb-false}
use lib.Dec.{ltb}
use lib.IntN.{ℤ}
use Rattle.lists.proofs.TestLaws.{or-neither, or-none}
use Rattle.lent.specs.Told.{given, refused}
use Rattle.net.specs.declared.Weighing.{Weighing}
use Rattle.net.specs.Pins.{pin_count, macro_count}
use Rattle.lines.specs.Bounds.{grid_macros}
use Rattle.lines.specs.Edges.{Edge}
use Rattle.parts.specs.Bounds.{best_pins, work_bound}
use Rattle.answers.specs.Best.{above_best, best_numbers, best_room_short, best_answer, best_given}

module _ (w : Weighing) (pins macros : List ℤ) (work room : ℕ) (T : List Edge) where
  pub best-above : above_best pins macros ≡ true → best_given w pins macros work room T ≡ refused 41
  unfolding best_given
  best-above h = rw h refl

  module _ (h : above_best pins macros ≡ false) where
    pub best-short : (ltb work work_bound || ltb room (best_numbers pins macros)) ≡ true → best_given w pins macros work room T ≡ refused 21
    unfolding best_given best_room_short
    best-short k = rw (h, k) refl

    pub best-enough : (ltb work work_bound || ltb room (best_numbers pins macros)) ≡ false
        → best_given w pins macros work room T ≡ given (best_answer w pins macros T)
    unfolding best_given best_room_short
    best-enough k = rw (h, k) refl

-- the room that is there
pub best-room : (pins macros : List ℤ) (work room : ℕ) → (ltb work work_bound || ltb room (best_numbers pins macros)) ≡ false
    → (work_bound ≤ work) × (best_numbers pins macros ≤ room)
best-room pins macros work room e =
    let r = or-none (ltb work work_bound) (ltb room (best_numbers pins macros)) e in
    (ltb-false work work_bound r.0, ltb-false room (best_numbers pins macros) r.1)

pub within-best : (pins macros : List ℤ) → pin_count pins ≤ best_pins → macro_count macros ≤ grid_macros → above_best pins macros ≡ false
unfolding above_best
within-best pins macros h k = or-neither _ _ (le-ltb best_pins (pin_count pins) h) (le-ltb grid_macros (macro_count macros) k)

-- the tests of the code, by what the check has counted
pub above-best : (pins macros : List ℤ) (m k : ℕ) → m ≡ pin_count pins → k ≡ macro_count macros →
    (ltb best_pins m || ltb grid_macros k) ≡ above_best pins macros
unfolding above_best
above-best pins macros m k e f = ap₂ (λ (a b : ℕ). ltb best_pins a || ltb grid_macros b) e f
