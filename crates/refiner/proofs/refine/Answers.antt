use Rattle.std.proofs.Common.{arith}
use Rattle.net.proofs.PinLaws.{length-pins}
use Rattle.exchanges.proofs.WithinLaws.{within-small, after-pruning}
use Rattle.refiner.proofs.RoundLaws.{answer-is}
use Rattle.refiner.proofs.refine.Goals as goal

pub total-requires : goal.total-requires
total-requires c =
    let r = c.rounds-z.ensures in
    let w = after-pruning _ _ _ _ _ _ _ _ c.prune_points-left.ensures r.1.1 in
    (omega (arith, w.0, r.1.0.1), within-small _ _ r.1.0.0 w.1)

pub returns : goal.returns
returns c =
    let r = c.rounds-z.ensures in
    let w = after-pruning _ _ _ _ _ _ _ _ c.prune_points-left.ensures r.1.1 in
    record {
      whole = answer-is _ _ _ _ _ _ _ _ _ _ (length-pins _) r.0 c.prune_points-left.ensures;
      sum = c.total.ensures;
      few = (r.1.0.0, omega (arith, w.0, r.1.0.1));
      inside = w.1;
    }
