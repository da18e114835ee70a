use Rattle.std.proofs.Common.{arith}
use Rattle.hanging.proofs.TallyLaws.{tally-none, tally-end}
use Rattle.hanging.proofs.tally.Goals as goal

pub loop-k-init : goal.loop-k-init
loop-k-init c = tally-none _ _ _ _ _ c.requires.hangs_value

pub add_edge-requires : goal.add_edge-requires
add_edge-requires c =
    let p = c.requires.e_le_straight_bound in record {
      k_lt_straight_bound = ((omega (arith, p), p.0.1.small c.loop-k.k), p.1);
      tallied = c.loop-k.invariant;
    }

pub returns : goal.returns
returns c = tally-end _ _ c.loop-k.invariant (omega arith) (omega arith)
