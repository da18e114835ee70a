-- The tables as the program has made them, for an allowed net of flat lists: what each call is handed, and what the last one gives.
-- Assumes nothing.
use mathlib.Core.Path.{◌≡◌, refl, sym, ap, ap₂, subst, ◌∙◌}
use mathlib.Core.List.{List, map}
use Prim.Native.Nat.{ℕ, ◌*◌, ◌≤◌}
use native.Mathlib.Omega.{arith}
use lib.IntN.{ℤ, pos}
use lib.ListN.{length, get_or, take, replicate, length-replicate}
use Rattle.lists.specs.Sorted.{sorted}
use Rattle.lent.specs.Over.{over}
use Rattle.lent.proofs.OverLaws.{take-over, length_over}
use Rattle.plane.specs.declared.Weights.{Weights}
use Rattle.plane.specs.Place.{before}
use Rattle.plane.specs.Flat.{macros_of}
use Rattle.plane.proofs.FlatLaws.{length-macros}
use Rattle.net.specs.Pins.{pin_count, pin_places, macro_count}
use Rattle.net.specs.Net.{Net, net_with}
use Rattle.net.specs.Allowed.{Allowed}
use Rattle.net.proofs.PinLaws.{length-pins}
use Rattle.lines.specs.declared.Grid.{Grid}
use Rattle.lines.specs.declared.Axis.{Axis}
use Rattle.lines.specs.declared.Axis.TheVariants.{Across, Along}
use Rattle.lines.specs.Bounds.{grid_pins, grid_macros, line_bound, crossing_bound}
use Rattle.lines.specs.Lines.{lines_of}
use Rattle.lines.specs.Crossings.{crossing_number}
use Rattle.grid.specs.Rows.{Below}
use Rattle.lines.specs.Tables.{FewLines}
use Rattle.grid.specs.Tables.{Priced, CostsTo, Fits, Near, RowsOver}
use Rattle.grid.specs.Distance.{SquareOver}
use Rattle.grid.proofs.TableGrid.{Made}
use Rattle.grid.proofs.NetDistance.{over-at, zeros-read, few-lines, lines-priced, costs-fit, numbers-below, numbers-count}
use Rattle.grid.proofs.NetDistance.{square-over}

-- a net of flat lists that gets a grid
pub record Small (w : Weights) (pins macros : List ℤ) : Type 0 where
  pub allowed : Allowed (net_with w pins macros)
  pub few-pins : pin_count pins ≤ grid_pins
  pub few-macros : macro_count macros ≤ grid_macros

-- the lines along one axis, in a table of zeros
pub record Lined (axis : Axis) (pins macros : List ℤ) (n : ℕ) (table : List ℤ) : Type 0 where
  pub lent : List ℤ
  pub fresh : lent ≡ replicate line_bound (pos 0)
  pub count : n ≡ length (lines_of axis (pin_places pins) (macros_of macros))
  pub list : table ≡ over (lines_of axis (pin_places pins) (macros_of macros)) lent

pub lined : {axis : Axis} {pins macros : List ℤ} {n : ℕ} {table : List ℤ} →
    n ≡ length (lines_of axis (pin_places pins) (macros_of macros)) →
    table ≡ over (lines_of axis (pin_places pins) (macros_of macros)) (replicate line_bound (pos 0)) → Lined axis pins macros n table
lined e f = record { lent = replicate line_bound (pos 0); fresh = refl; count = e; list = f }

module _ {w : Weights} {pins macros : List ℤ} (s : Small w pins macros) where
  abbrev net : Net
  net = net_with w pins macros

  pub pins-few : length (pin_places pins) ≤ grid_pins
  pins-few = omega (arith, s.few-pins, length-pins pins)

  pub macros-few : length (macros_of macros) ≤ grid_macros
  macros-few = omega (arith, s.few-macros, length-macros macros)

  few_on : (axis : Axis) → length (lines_of axis (pin_places pins) (macros_of macros)) ≤ line_bound
  few_on axis = few-lines s.allowed pins-few macros-few axis

  module _ {axis : Axis} {n : ℕ} {table : List ℤ} (l : Lined axis pins macros n table) where
    zeros-long : length l.lent ≡ line_bound
    zeros-long = ap length l.fresh ∙ length-replicate line_bound (pos 0)

    pub table-long : length table ≡ line_bound
    table-long =
        ap length l.list
        ∙ length_over (lines_of axis (pin_places pins) (macros_of macros)) l.lent (omega (arith, few_on axis, zeros-long))
        ∙ zeros-long

    lines-taken : take n table ≡ lines_of axis (pin_places pins) (macros_of macros)
    lines-taken =
        ap₂ (λ (k : ℕ) (t : List ℤ). take k t) l.count l.list ∙ take-over (lines_of axis (pin_places pins) (macros_of macros)) l.lent

    zeros-at : (i : ℕ) → get_or l.lent i (pos 0) ≡ pos 0
    zeros-at i = ap (λ (t : List ℤ). get_or t i (pos 0)) l.fresh ∙ zeros-read line_bound (pos 0) i

  module _ {g : Grid} {xs ys : List ℤ} (lx : Lined Across pins macros g.across xs) (ly : Lined Along pins macros g.along ys) where
    pub whole-few : FewLines g
    whole-few = record { across = omega (arith, lx.count, few_on Across); along = omega (arith, ly.count, few_on Along) }

    pub whole-priced : Priced w xs ys
    whole-priced u v =
        subst (λ (t : List ℤ × List ℤ). Priced w t.0 t.1) (sym (ap₂ (λ (a b : List ℤ). (a, b)) lx.list ly.list))
        (lines-priced s.allowed pins-few macros-few lx.lent ly.lent (zeros-at lx) (zeros-at ly) (zeros-long lx) (zeros-long ly)) u
        v

    module _ {costs : List ℕ} {e : ℕ} (count : e ≡ g.across * line_bound * 2) (c : CostsTo w (macros_of macros) g xs ys e costs) where
      pub whole-fits : Fits costs e
      whole-fits = costs-fit s.allowed pins-few macros-few g xs ys costs e whole-few whole-priced count c

      pub made : Made net g xs ys costs e
      made = record {
        x-count = lx.count;
        y-count = ly.count;
        few = whole-few;
        x-at = λ i h. ap (λ (t : List ℤ). get_or t i (pos 0)) lx.list ∙ over-at _ lx.lent i h;
        y-at = λ i h. ap (λ (t : List ℤ). get_or t i (pos 0)) ly.list ∙ over-at _ ly.lent i h;
        count = count;
        filled = c;
      }

      -- the numbers of the pins, in a table of zeros
      module _ (zeros numbers : List ℕ) (fresh : zeros ≡ replicate grid_pins 0)
          (n : numbers ≡ over (map (crossing_number (take g.across xs) (take g.along ys)) (sorted before (pin_places pins))) zeros)
        where
          pub zero-at : (i : ℕ) → get_or zeros i 0 ≡ 0
          zero-at i = ap (λ (t : List ℕ). get_or t i 0) fresh ∙ zeros-read grid_pins 0 i

          pub zero-long : length zeros ≡ grid_pins
          zero-long = ap length fresh ∙ length-replicate {A = ℕ} grid_pins 0

          pub renamed : numbers ≡ over (map (crossing_number (lines_of Across (pin_places pins) (macros_of macros))
              (lines_of Along (pin_places pins) (macros_of macros)))
              (sorted before (pin_places pins))) zeros
          renamed =
              n ∙ ap₂ (λ (a b : List ℤ). over (map (crossing_number a b) (sorted before (pin_places pins))) zeros) (lines-taken lx)
              (lines-taken ly)

          pub whole_below : Below crossing_bound numbers
          whole_below i =
              subst (Below crossing_bound) (sym renamed) (numbers-below s.allowed pins-few macros-few zeros zero-at zero-long) i

          pub whole-count : length numbers ≡ grid_pins
          whole-count = ap length renamed ∙ numbers-count s.allowed pins-few macros-few zeros zero-at zero-long

          pub whole-square : (lent lent' : List ℤ) → RowsOver (Near costs e) numbers (pin_count pins) (pin_count pins) lent lent' →
              SquareOver net lent lent'
          whole-square lent lent' o =
              square-over s.allowed pins-few macros-few zeros zero-at zero-long g xs ys costs e made lent lent'
              (subst (λ (t : List ℕ). RowsOver (Near costs e) t (length (pin_places pins)) (length (pin_places pins)) lent lent') renamed
              (subst (λ (m : ℕ). RowsOver (Near costs e) numbers m m lent lent') (sym (length-pins pins)) o))
