use Rattle.std.proofs.Common.{sym, ◌∙◌}
use borrow.Author.Tests.{eq-eqb, ne_eqb}
use Rattle.traced.proofs.RouteLaws.{touch_is, touch-one}
use Rattle.traced.proofs.touches.Goals as goal

pub returns-then-k-v : goal.returns-then-k-v
returns-then-k-v c = eq-eqb _ _ c.if-k-v.true ∙ sym (touch-one _ _ c.if-k-v.true)

pub returns-else-k-v : goal.returns-else-k-v
returns-else-k-v c = rw (ne_eqb _ _ c.if-k-v.false) at (touch_is c.args.k c.args.v _ c.target.ensures)
