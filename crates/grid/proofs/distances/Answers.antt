use Rattle.std.proofs.Common.{refl}
use Rattle.grid.proofs.WholeLaws.{Small, lined, whole-few, whole-priced, whole-fits, whole_below, whole-count}
use Rattle.grid.proofs.WholeLaws.{whole-square}
use Rattle.grid.proofs.distances.Goals as goal

pub put_costs-e-requires : goal.put_costs-e-requires
put_costs-e-requires c =
    let r = c.requires in
    let small : Small c.args.w c.args.pins.now c.args.macros.now =
    record { allowed = r.allowed; few-pins = r.pins_bound.0; few-macros = r.pins_bound.1 } in
    let across = lined c.lines-across.ensures.value c.lines-across.ensures.table_after in
    let along = lined c.lines-along.ensures.value c.lines-along.ensures.table_after in
    record { few_lines = (whole-few small across along, refl); priced = whole-priced small across along }

pub number_pins-requires : goal.number_pins-requires
number_pins-requires c =
    let r = c.requires in
    let small : Small c.args.w c.args.pins.now c.args.macros.now =
    record { allowed = r.allowed; few-pins = r.pins_bound.0; few-macros = r.pins_bound.1 } in
    let across = lined c.lines-across.ensures.value c.lines-across.ensures.table_after in
    let along = lined c.lines-along.ensures.value c.lines-along.ensures.table_after in
    record { few_lines = (whole-few small across along, (c.lines-across.auto.table, c.lines-along.auto.table)); pins_bound = (r.pins_bound.0, refl) }

pub give_rows-requires : goal.give_rows-requires
give_rows-requires c =
    let r = c.requires in
    let small : Small c.args.w c.args.pins.now c.args.macros.now =
    record { allowed = r.allowed; few-pins = r.pins_bound.0; few-macros = r.pins_bound.1 } in
    let across = lined c.lines-across.ensures.value c.lines-across.ensures.table_after in
    let along = lined c.lines-along.ensures.value c.lines-along.ensures.table_after in
    let e = c.put_costs-e.ensures in
    let m = c.pin_count.ensures in
    let below = whole_below small across along e.value e.costs_to _ _ refl c.number_pins.ensures in
    let count = whole-count small across along e.value e.costs_to _ _ refl c.number_pins.ensures in
    record {
      fits = (whole-fits small across along e.value e.costs_to, (rw m r.pins_bound.0, (below, count)));
      m_in_bounds = rw m r.pins_in_bounds;
    }

pub returns : goal.returns
returns c =
    let r = c.requires in
    let small : Small c.args.w c.args.pins.now c.args.macros.now =
    record { allowed = r.allowed; few-pins = r.pins_bound.0; few-macros = r.pins_bound.1 } in
    let across = lined c.lines-across.ensures.value c.lines-across.ensures.table_after in
    let along = lined c.lines-along.ensures.value c.lines-along.ensures.table_after in
    let e = c.put_costs-e.ensures in
    whole-square small across along e.value e.costs_to _ _ refl c.number_pins.ensures _ _ (rw c.pin_count.ensures at c.give_rows.ensures)
