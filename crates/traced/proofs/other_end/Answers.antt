use Rattle.std.proofs.Common.{sym, ◌∙◌}
use Rattle.traced.proofs.RouteLaws.{other-hit, other-miss}
use Rattle.traced.proofs.other_end.Goals as goal

pub returns-then-k-v : goal.returns-then-k-v
returns-then-k-v c = c.target.ensures ∙ sym (other-hit _ _ c.if-k-v.true)

pub returns-else-k-v : goal.returns-else-k-v
returns-else-k-v c = sym (other-miss _ _ c.if-k-v.false)
