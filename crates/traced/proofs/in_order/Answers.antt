use Rattle.std.proofs.Common.{sym, arith}
use Rattle.traced.proofs.RouteLaws.{order-even, order-odd}
use Rattle.traced.proofs.in_order.Goals as goal

pub returns-then-k-eq0 : goal.returns-then-k-eq0
returns-then-k-eq0 c = (sym (order-even _ c.if-k-eq0.true), omega (arith, c.if-k-eq0.true))

pub returns-else-k-eq0 : goal.returns-else-k-eq0
returns-else-k-eq0 c = (sym (order-odd _ c.if-k-eq0.false), omega arith)
