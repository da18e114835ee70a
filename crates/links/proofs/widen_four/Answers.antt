use Rattle.std.proofs.Common.{arith}
use Rattle.links.proofs.ReachLaws.{reached-more}
use Rattle.links.proofs.widen_four.Goals as goal

pub returns : goal.returns
returns c =
    let h = c.loop-i.invariant in (
      h.long,
      reached-more c.args.picked.now c.args.n c.args.k _ _ h.grows (λ j l. h.both j (omega (arith, l))) c.requires.reached,
    )
