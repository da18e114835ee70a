use Rattle.std.proofs.Common.{arith}
use Rattle.exchanges.proofs.WithinLaws.{within-after}
use Rattle.refiner.proofs.ReadyLaws.{exchange-off, exchange-on}
use Rattle.refiner.proofs.round.exchanged.Goals as goal

pub returns-then-c : goal.returns-then-c
returns-then-c c =
    let b = c.if-c.true in
    let q = c.graft-g.ensures in
    let r = c.requires.room b in
    let w = q.points_value.1 in
    let x = c.exchange.ensures in (
      exchange-off _ _ _ _ _ _ b _ q.result_after _ x.0,
      (
        (omega (arith, q.points_value.0.0, r.0, x.1.0), omega (arith, q.points_value.0.1, r.1, x.1.1)),
        within-after _ _ _ _ _ _ _ _ _ x.0 (omega (arith, q.points_value.0.0, r.0)) w.last w.within,
      ),
    )

pub returns-else-c : goal.returns-else-c
returns-else-c c =
    let b = c.if-c.false in
    let r = c.requires in
    let x = c.exchange-else-c.ensures in (
      exchange-on _ _ _ _ _ _ b _ x.0,
      (
        (omega (arith, r.few.0, x.1.0), omega (arith, r.few.1, x.1.1)),
        within-after _ _ _ _ _ _ _ _ _ x.0 r.few.0 (r.on b) r.within,
      ),
    )
