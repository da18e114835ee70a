use Rattle.std.proofs.Common.{◌<◌, length, arith, ◌∙◌}
use mir.Syntax.{w64}
use mir.ValLaws.{to_z-of_z}
use Rattle.grid.proofs.TableLaws.{put-none, put-more, put-end}
use Rattle.grid.proofs.put_row.Goals as goal

pub loop-j-init : goal.loop-j-init
loop-j-init c = put-none c.args.row.now c.args.numbers.now c.args.table.now c.args.from

pub bounds-row-numbers : goal.bounds-row-numbers
bounds-row-numbers c = c.requires.m_le_grid_pins.1 c.loop-j.j

pub loop-j-preserved : goal.loop-j-preserved
loop-j-preserved c =
    let a = c.args in
    let room : c.loop-j.j < length a.numbers.now = omega (arith, c.requires) in
    let same = to_z-of_z w64 c.from.result (record { sfits = c.from.type_inv }) ∙ c.from.ensures in
    put-more a.row.now a.numbers.now a.table.now a.from c.loop-j.j c.loop-j.table _ c.loop-j.invariant room same

pub returns : goal.returns
returns c =
    let a = c.args in
    put-end a.row.now a.numbers.now a.table.now a.from c.loop-j.j a.m c.loop-j.table (omega arith) c.loop-j-test.false c.loop-j.invariant
