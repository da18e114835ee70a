use Rattle.std.proofs.Common.{arith}
use Rattle.grid.proofs.GivenLaws.{rows_none, rows_more, rows_end, row_room}
use Rattle.grid.proofs.give_rows.Goals as goal

pub loop-i-init : goal.loop-i-init
loop-i-init c = rows_none _ _ _ _

pub give_row-requires : goal.give_row-requires
give_row-requires c =
    let h = c.loop-i-test.true in
    let room = c.requires.m_in_bounds in
    record { fits = c.requires.fits; i_lt_m = (h, row_room _ _ _ h (omega (arith, room))) }

pub loop-i-preserved : goal.loop-i-preserved
loop-i-preserved c =
    let few = c.requires.fits.1.0 in
    rows_more _ _ _ _ _ _ _ c.loop-i.invariant c.give_row.ensures (omega (arith, few))
    (row_room _ _ _ c.loop-i-test.true c.requires.m_in_bounds)

pub returns : goal.returns
returns c = rows_end _ _ _ _ _ _ (omega arith) c.loop-i-test.false c.loop-i.invariant
