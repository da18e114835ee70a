use Rattle.std.proofs.Common.{arith}
use Rattle.sweeps.proofs.TableLaws as laws
use Rattle.sweeps.proofs.visit.Goals as goal

pub returns-then-x-row : goal.returns-then-x-row
returns-then-x-row c =
    let u = c.source-u.ensures in
    let s = c.from.ensures in
    let some = c.if-s-eq0.false in
    rw s (laws.visit-hit c.args.left.now c.requires.0 c.args.row.now c.requires.1.0 c.args.a c.requires.1.1 (omega (arith, some))
    (rw (u, s) at c.if-x-row.true) _ _ u)
