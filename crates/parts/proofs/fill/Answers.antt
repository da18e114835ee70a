use Rattle.std.proofs.Common.{arith}
use Rattle.parts.proofs.WorkLaws.{fill_none, fill_more, fill-rows, fill_end}
use Rattle.parts.proofs.fill.Goals as goal

pub loop-s-init : goal.loop-s-init
loop-s-init c = fill_none _ _ _ _

pub fill_row-requires : goal.fill_row-requires
fill_row-requires c =
    let room = c.requires.work_bound_in_bounds in
    record { fits = c.requires.fits; rows_to = (fill-rows _ _ _ _ _ _ room.0 c.loop-s.invariant, (omega arith, omega (arith, room))) }

pub loop-s-preserved : goal.loop-s-preserved
loop-s-preserved c =
    let room = c.requires.work_bound_in_bounds in
    fill_more _ _ _ _ _ _ _ room.0 (omega arith) (omega (arith, room)) c.loop-s.invariant c.fill_row.ensures

pub returns : goal.returns
returns c = fill_end _ _ _ _ _ _ _ (omega (arith, c.requires.work_bound_in_bounds)) c.loop-s-test.false c.loop-s.invariant
