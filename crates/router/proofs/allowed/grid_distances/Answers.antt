-- `router::allowed::grid_distances` meets its contract: 36 above the size of a grid, then 21, and where there is room the square table.
-- Assumes nothing.
use Rattle.std.proofs.Common.{◌≡◌, ◌∙◌, ℕ, ℤ, List, Bool, false, ◌||◌, ◌*◌, ◌≤◌, ◌<◌, refl, sym, ap, ap₂, arith, length, ltb}
use mathlib.Core.Path.{subst}
use native.Mathlib.Nat.{mul-le-mul}
use borrow.Author.Tests.{ltb-false}
use Rattle.lists.proofs.TestLaws.{or-none}
use Rattle.lent.specs.Told.{given}
use Rattle.net.specs.declared.Net.{Net as Counts}
use Rattle.net.specs.declared.Weighing.{Weighing}
use Rattle.net.specs.Answer.{number, told_by}
use Rattle.net.specs.Pins.{pin_count, macro_count}
use Rattle.net.specs.Net.{Net, handed}
use Rattle.lines.specs.Bounds.{grid_pins, grid_macros}
use Rattle.grid.specs.Distance.{SquareOver}
use Rattle.answers.specs.Distances.{above_grid}
use Rattle.answers.proofs.DistanceLaws.{grid-above, grid-short, grid-enough, above_of}
use Rattle.made.specs.Counted.{Counted}
use Rattle.made.proofs.CountedLaws.{as-net, as-allowed, as-pins, counts-few}
use Rattle.router.proofs.CallLaws.{square-refused, square-given}
use Rattle.router.proofs.allowed.grid_distances.Goals as goal

-- m and k, as the check has counted them
module _ {net : Counts} {w : Weighing} {pins macros : List ℤ} (counted : Counted net w pins macros) where
  macros-are : net.macros ≡ macro_count macros
  macros-are = ap (λ (k : Counts). k.macros) counted.counts

  square-are : net.pins * net.pins ≡ pin_count pins * pin_count pins
  square-are = ap₂ ◌*◌ (as-pins counted) (as-pins counted)

  size : {t : Bool} → (ltb grid_pins net.pins || ltb grid_macros net.macros) ≡ t → above_grid pins macros ≡ t
  size e = sym (above_of pins macros _ _ (as-pins counted) macros-are) ∙ e

  size_few : (ltb grid_pins net.pins || ltb grid_macros net.macros) ≡ false
      → (pin_count pins ≤ grid_pins) × (macro_count macros ≤ grid_macros)
  size_few e =
      let r = or-none (ltb grid_pins net.pins) (ltb grid_macros net.macros) e in (
        omega (arith, ltb-false grid_pins net.pins r.0, as-pins counted),
        omega (arith, ltb-false grid_macros net.macros r.1, macros-are),
      )

pub returns-then-net : goal.returns-then-net
unfolding told_by number
returns-then-net c =
    let a = c.args in
    square-refused refl (grid-above (handed a.net.weights) a.pins.now a.macros.now (length a.table.now) (size c.requires c.if-net.true))

pub overflow_mul-n : goal.overflow_mul-n
overflow_mul-n c =
    let few = (counts-few c.requires).0 in
    let l = mul-le-mul few few in
    omega (arith, l)

pub returns-then-table-n : goal.returns-then-table-n
unfolding told_by number
returns-then-table-n c =
    let a = c.args in
    square-refused refl
    (grid-short (handed a.net.weights) a.pins.now a.macros.now (length a.table.now) (size c.requires c.if-net.false)
    (subst (λ (n : ℕ). length a.table.now < n) (square-are c.requires) c.if-table-n.true))

pub distances-requires : goal.distances-requires
distances-requires c =
    record {
      allowed = as-allowed c.requires;
      pins_bound = size_few c.requires c.if-net.false;
      pins_in_bounds = subst (λ (n : ℕ). n ≤ length c.args.table.now) (square-are c.requires) c.if-table-n.false;
    }

pub returns : goal.returns
unfolding told_by
returns c =
    let a = c.args in
    square-given (ap given (square-are c.requires))
    (grid-enough (handed a.net.weights) a.pins.now a.macros.now (length a.table.now) (size c.requires c.if-net.false)
    (subst (λ (n : ℕ). n ≤ length a.table.now) (square-are c.requires) c.if-table-n.false))
    (subst (λ (z : Net). SquareOver z a.table.now c.distances.new.table) (as-net c.requires) c.distances.ensures)
