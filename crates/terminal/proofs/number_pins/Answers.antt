-- With no macro the vertices are the pins in order.
use Rattle.std.proofs.Common.{◌≤◌, arith}
use Rattle.net.specs.Bounds.{pin_bound}
use Rattle.net.specs.Pins.{pin_places}
use Rattle.net.proofs.PinLaws.{length-pins}
use Rattle.terminal.proofs.WorkLaws.{pins-few, pins-numbered}
use Rattle.terminal.proofs.number_pins.Goals as goal
use Rattle.terminal.proofs.number_pins.Goals.{After-vertices-m}

few : (d : After-vertices-m) → d.vertices-m.result ≤ pin_bound
few d =
    let pins = d.args.pins.now in
    omega (arith, d.vertices-m.ensures.value, pins-few (pin_places pins), length-pins pins, d.requires.pins_bound)

pub number_places-requires-clause-m_in_bounds : goal.number_places-requires-clause-m_in_bounds
number_places-requires-clause-m_in_bounds c =
    let d = (goal.at.number_places-requires-clause-m_in_bounds c).After-vertices-m in
    (omega (arith, few d), c.requires.pins_bound.1)

pub number_places-requires-clause-m_le_point_bound : goal.number_places-requires-clause-m_le_point_bound
number_places-requires-clause-m_le_point_bound c =
    let d = (goal.at.number_places-requires-clause-m_le_point_bound c).After-vertices-m in
    (omega (arith, few d), c.requires.numbers_len)

pub returns : goal.returns
returns c = pins-numbered _ _ _ _ _ _ _ c.vertices-m.ensures.value c.vertices-m.ensures.table_after c.number_places.ensures
