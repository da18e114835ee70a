-- The distances on the grid among the operations: rules C36, C77 and C78. What they are stands in `grid` (specs/Distance.antt).
use Rattle.std.specs.Prelude.{Bool, cond, ◌||◌, List, ℕ, ◌*◌, ltb, ℤ}
use Rattle.lent.specs.Told.{Told, refused, only_if}
use Rattle.net.specs.Pins.{pin_count, macro_count}
use Rattle.net.specs.declared.Weighing.{Weighing}
use Rattle.checks.specs.Check.{checked}
use Rattle.lines.specs.Bounds.{grid_pins, grid_macros}
use Rattle.answers.specs.Room.{if_room}

-- C36: more than 16 pins, or more than 16 macros
unfoldable pub above_grid : List ℤ → List ℤ → Bool
above_grid pins macros = ltb grid_pins (pin_count pins) || ltb grid_macros (macro_count macros)

-- C77: 36, then fewer than m · m numbers; otherwise how many numbers
unfoldable pub distances_given : Weighing → List ℤ → List ℤ → ℕ → Told ℕ
distances_given w pins macros room =
    cond (above_grid pins macros) (refused 36) (if_room (pin_count pins * pin_count pins) room (pin_count pins * pin_count pins))

-- C77: 11 to 18, then 36, then 21
unfoldable pub grid_distances : Weighing → List ℤ → List ℤ → ℕ → Told ℕ
grid_distances w pins macros room = only_if (checked w pins macros) (distances_given w pins macros room)
