use Rattle.std.proofs.Common.{◌≤◌, List, ℤ, refl, arith}
use Rattle.plane.specs.declared.Weights.{Weights}
use Rattle.net.specs.Pins.{pin_count, macro_count}
use Rattle.net.specs.Net.{net_with}
use Rattle.net.specs.Allowed.{Allowed}
use Rattle.net.proofs.PinLaws.{length-pins}
use Rattle.lines.specs.Bounds.{grid_macros}
use Rattle.grid.proofs.WholeLaws.{Small, lined, whole-few, whole-priced, whole-fits, whole_below}
use Rattle.parts.specs.Bounds.{best_pins}
use Rattle.parts.proofs.WorkLaws.{fill-rows}
use Rattle.best.proofs.SizeLaws.{sets-bound}
use Rattle.best.proofs.WholeBest.{whole-targets, whole_room, whole-over, work-cleared}
use Rattle.best.proofs.best_tree.Goals as goal

small_net : {w : Weights} {pins macros : List ℤ} → Allowed (net_with w pins macros) →
    (pin_count pins ≤ best_pins) × (macro_count macros ≤ grid_macros) → Small w pins macros
small_net allowed few = record { allowed = allowed; few-pins = omega (arith, few.0); few-macros = few.1 }

pub put_costs-e-requires : goal.put_costs-e-requires
put_costs-e-requires c =
    let small = small_net c.requires.allowed c.requires.pins_bound in
    let across = lined c.lines-across.ensures.value c.lines-across.ensures.table_after in
    let along = lined c.lines-along.ensures.value c.lines-along.ensures.table_after in
    record { few_lines = (whole-few small across along, refl); priced = whole-priced small across along }

pub number_pins-requires : goal.number_pins-requires
number_pins-requires c =
    let small = small_net c.requires.allowed c.requires.pins_bound in
    let across = lined c.lines-across.ensures.value c.lines-across.ensures.table_after in
    let along = lined c.lines-along.ensures.value c.lines-along.ensures.table_after in
    record { few_lines = (whole-few small across along, (c.lines-across.auto.table, c.lines-along.auto.table)); pins_bound = (small.few-pins, refl) }

pub masks-n-requires : goal.masks-n-requires
masks-n-requires c =
    let some = c.requires.allowed.some-pin in
    (omega (arith, c.pin_count-m.ensures, some, length-pins c.args.pins.now), omega (arith, c.pin_count-m.ensures, c.requires.pins_bound.0))

pub overflow_sub-m : goal.overflow_sub-m
overflow_sub-m c =
    let pin = c.requires.allowed.some-pin in
    omega (arith, c.pin_count-m.ensures, pin, length-pins c.args.pins.now)

pub fill-requires : goal.fill-requires
fill-requires c =
    let small = small_net c.requires.allowed c.requires.pins_bound in
    let across = lined c.lines-across.ensures.value c.lines-across.ensures.table_after in
    let along = lined c.lines-along.ensures.value c.lines-along.ensures.table_after in
    let e = c.put_costs-e.ensures in
    let pin = c.requires.allowed.some-pin in
    let some : 1 ≤ c.pin_count-m.result = omega (arith, c.pin_count-m.ensures, pin, length-pins c.args.pins.now) in
    let few : c.pin_count-m.result ≤ best_pins = omega (arith, c.pin_count-m.ensures, c.requires.pins_bound.0) in
    record {
      fits = (whole-fits small across along e.value e.costs_to, whole_below small across along e.value e.costs_to _ _ refl c.number_pins.ensures);
      work_bound_in_bounds = (c.requires.work_bound_in_bounds.0, sets-bound _ _ c.masks-n.ensures some few);
    }

pub overflow_sub-m-2 : goal.overflow_sub-m-2
overflow_sub-m-2 c =
    let pin = c.requires.allowed.some-pin in
    omega (arith, c.pin_count-m.ensures, pin, length-pins c.args.pins.now)

pub read_back-total-requires : goal.read_back-total-requires
read_back-total-requires c =
    let small = small_net c.requires.allowed c.requires.pins_bound in
    let across = lined c.lines-across.ensures.value c.lines-across.ensures.table_after in
    let along = lined c.lines-along.ensures.value c.lines-along.ensures.table_after in
    let e = c.put_costs-e.ensures in
    let pin = c.requires.allowed.some-pin in
    let some : 1 ≤ c.pin_count-m.result = omega (arith, c.pin_count-m.ensures, pin, length-pins c.args.pins.now) in
    let few : c.pin_count-m.result ≤ best_pins = omega (arith, c.pin_count-m.ensures, c.requires.pins_bound.0) in
    let below = whole_below small across along e.value e.costs_to _ _ refl c.number_pins.ensures in
    record {
      fits = (whole-fits small across along e.value e.costs_to, refl);
      rows_to = (
        fill-rows _ _ _ _ _ _ c.requires.work_bound_in_bounds.0 c.fill.ensures,
        (sets-bound _ _ c.masks-n.ensures some few, below 0),
      );
    }

pub metal-metal-requires : goal.metal-metal-requires
metal-metal-requires c =
    let small = small_net c.requires.allowed c.requires.pins_bound in
    let across = lined c.lines-across.ensures.value c.lines-across.ensures.table_after in
    let along = lined c.lines-along.ensures.value c.lines-along.ensures.table_after in
    let e = c.put_costs-e.ensures in
    let targets =
    whole-targets small c.requires.pins_bound.0 across along e.value e.costs_to _ _ refl c.number_pins.ensures _ _ c.pin_count-m.ensures
    c.masks-n.ensures _ _ c.fill.ensures _ _ refl _ c.read_back-total.ensures in
    ((whole-fits small across along e.value e.costs_to).count, targets)

pub put_edges-edges-requires : goal.put_edges-edges-requires
put_edges-edges-requires c =
    let small = small_net c.requires.allowed c.requires.pins_bound in
    let across = lined c.lines-across.ensures.value c.lines-across.ensures.table_after in
    let along = lined c.lines-along.ensures.value c.lines-along.ensures.table_after in
    let e = c.put_costs-e.ensures in
    let targets =
    whole-targets small c.requires.pins_bound.0 across along e.value e.costs_to _ _ refl c.number_pins.ensures _ _ c.pin_count-m.ensures
    c.masks-n.ensures _ _ c.fill.ensures _ _ refl _ c.read_back-total.ensures in
    let room =
    whole_room small c.requires.pins_bound.0 across along e.value e.costs_to _ _ refl c.number_pins.ensures _ _ c.pin_count-m.ensures
    c.masks-n.ensures _ _ c.fill.ensures _ _ refl _ c.read_back-total.ensures
    _ c.requires.work_bound_in_bounds.1 in
    record { e_le_segment_bound = ((whole-fits small across along e.value e.costs_to).count, targets); e_in_bounds = room }

pub clear-requires : goal.clear-requires
clear-requires c = (fill-rows _ _ _ _ _ _ c.requires.work_bound_in_bounds.0 c.fill.ensures).size

pub returns : goal.returns
returns c =
    let small = small_net c.requires.allowed c.requires.pins_bound in
    let across = lined c.lines-across.ensures.value c.lines-across.ensures.table_after in
    let along = lined c.lines-along.ensures.value c.lines-along.ensures.table_after in
    let e = c.put_costs-e.ensures in
    let edges = c.put_edges-edges.ensures in
    record {
      best_over = whole-over small c.requires.pins_bound.0 across along e.value e.costs_to _ _ refl c.number_pins.ensures _ _ c.pin_count-m.ensures
          c.masks-n.ensures _ _ c.fill.ensures _ _ refl _ c.read_back-total.ensures
          _ _ _ _ edges.value c.metal-metal.ensures edges.edges_after;
      work_after = work-cleared _ _ _ _ _ _ _ c.fill.ensures c.clear.ensures;
    }
