-- What is promised of the distances on the grid. What they are stands in `grid` (specs/Distance.antt).
use Rattle.std.specs.Prelude.{◌≡◌, List, ℕ, ◌*◌, ◌≤◌, ℤ}
use Rattle.lent.specs.Told.{given}
use Rattle.net.specs.Pins.{pin_count, macro_count}
use Rattle.net.specs.declared.Weighing.{Weighing}
use Rattle.net.specs.Net.{net_of}
use Rattle.checks.specs.Check.{checked}
use Rattle.lines.specs.Bounds.{grid_pins, grid_macros}
use Rattle.grid.specs.Distance.{Square, TrueSquare}
use Rattle.answers.specs.Distances.{grid_distances}

-- What is promised of the table of an allowed net; the check is the only premise (`promised-distances`, proofs/Distances.antt)
pub record PromisedDistances (w : Weighing) (pins macros : List ℤ) : Type 0 where
  -- D1b: a net of that size is given its table, where there is room for it
  pub table-given : pin_count pins ≤ grid_pins → macro_count macros ≤ grid_macros → (room : ℕ) → pin_count pins * pin_count pins ≤ room
      → grid_distances w pins macros room ≡ given (pin_count pins * pin_count pins)
  -- L7, L8: it is true, the same both ways with 0 in the diagonal, and no way along the spanning graph is cheaper
  pub table-true : (numbers : List ℕ) → Square (net_of w pins macros) numbers → TrueSquare (net_of w pins macros) numbers
  -- and it is the only one
  pub table-only : (t u : List ℕ) → Square (net_of w pins macros) t → Square (net_of w pins macros) u → t ≡ u
