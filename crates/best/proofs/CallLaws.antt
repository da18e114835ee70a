-- What is promised of the number that a call gives as the cost of its tree (L11, L14), and how many edges there can be.
-- Assumes nothing.
use mathlib.Core.List.{List}
use Prim.Native.Nat.{ℕ, ◌+◌, ◌*◌, ◌≤◌, ◌<◌}
use native.Mathlib.Nat.{mul-le-mul}
use native.Mathlib.Omega.{arith}
use lib.IntN.{ℤ}
use lib.ListN.{length}
use Rattle.joined.specs.Cost.{lengths}
use Rattle.plane.specs.declared.Place.{Place}
use Rattle.net.specs.Net.{Net, cost_in}
use Rattle.net.specs.Allowed.{Allowed}
use Rattle.lines.specs.declared.Axis.TheVariants.{Across, Along}
use Rattle.lines.specs.Bounds.{grid_macros}
use Rattle.lines.specs.Lines.{x_lines, y_lines}
use Rattle.lines.specs.Edges.{Edge}
use Rattle.lines.proofs.GridCost.{line-count}
use Rattle.rules.specs.Terminal.{Path}
use Rattle.rules.specs.Trees.{Trees}
use Rattle.parts.specs.Bounds.{best_pins}
use Rattle.best.specs.Tree.{JoinsPins, IsBest, BestOver}
use Rattle.best.proofs.RefinedLaws.{refined-not-cheaper}

module _ {net : Net} {lent lent' : List ℤ} {edges total metal : ℕ} (b : BestOver net lent lent' edges total metal) where
  -- L11: no edges of the grid that join all pins cost less
  pub total-least : (F : List Edge) → JoinsPins net F → total ≤ lengths (cost_in net) F
  total-least F j = let r = b.is-best.best.least F j in omega (arith, r, b.cost)

  -- L14: nor does the refined tree
  pub total-refined : Allowed net → {vs : List Place} {es : List Edge} {ks : List Path} {rs : List Edge} → Trees net vs es ks rs →
      total ≤ lengths (cost_in net) rs
  total-refined a t = let r = refined-not-cheaper a b.is-best.best t in omega (arith, r, b.cost)

-- five pins and sixteen macros have 37 lines along either axis at most, so a best tree has fewer edges than 37 times 37
pub best-few : (net : Net) (O : List Edge) → IsBest net O → length net.pins ≤ best_pins → length net.macros ≤ grid_macros →
    length O < (best_pins + grid_macros * 2) * (best_pins + grid_macros * 2)
best-few net O b few-pins few-macros =
    let x : length (x_lines net) ≤ best_pins + grid_macros * 2 = omega (arith, few-pins, few-macros, line-count Across net) in
    let y : length (y_lines net) ≤ best_pins + grid_macros * 2 = omega (arith, few-pins, few-macros, line-count Along net) in
    omega (arith, b.few, mul-le-mul x y)
