use Rattle.std.proofs.Common.{arith}
use Rattle.best.proofs.GivenLaws.{marked-inside, marked-ends}
use Rattle.best.proofs.marked_at.Goals as goal

pub crossing-q-requires : goal.crossing-q-requires
crossing-q-requires c =
    let some = c.if-used-j-eq0.false in
    (omega arith, marked-inside _ _ _ c.in_order-k.ensures.0 c.target.ensures (c.requires.1 (omega (arith, some))))

pub returns : goal.returns
returns c =
    let some = c.if-used-j-eq0.false in (
      omega (arith, some),
      marked-ends c.args.xs.now c.args.ys.now _ _ _ _ _ c.in_order-k.ensures.0 c.target.ensures c.crossing-p.ensures
          c.crossing-q.ensures,
    )
