use Rattle.std.proofs.Common.{◌≡◌, ◌+◌, ◌*◌, ◌-◌, arith}
use Rattle.lines.specs.Bounds.{crossing_bound}
use Rattle.parts.specs.Tables.{row_of}
use Rattle.parts.proofs.get_row.Goals as goal

pub returns : goal.returns
unfolding row_of
returns c =
    let long : c.args.s * crossing_bound + crossing_bound - c.args.s * crossing_bound ≡ crossing_bound = omega arith in
    rw long at c.copy_from_slice.ensures.after
