-- An edge with a loose end goes, and without one nothing more does.
use Rattle.std.proofs.Common.{arith}
use Rattle.exchanges.proofs.LaidLaws.{small-closed}
use Rattle.exchanges.proofs.PruneLaws.{prune-done, prune-more}
use Rattle.exchanges.proofs.prune.prune.Goals as goal

pub loop-i-preserved : goal.loop-i-preserved
loop-i-preserved c =
    let i = c.loop-i.invariant in
    let m = c.in-Some.ensures in (
      omega arith,
      (
        rw c.remove.ensures (small-closed _ _ _ _ i.1.0),
        prune-more _ _ _ _ _ i.1.1 m.0 m.1 _ c.remove.ensures,
      ),
    )

pub returns : goal.returns
returns c = prune-done _ _ _ _ c.loop-i.invariant.1.1 c.in_default.ensures
