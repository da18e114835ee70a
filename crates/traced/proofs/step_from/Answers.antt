use Rattle.std.proofs.Common.{refl, inr}
use Rattle.traced.proofs.RouteLaws.{none_end}
use Rattle.traced.proofs.step_from.Goals as goal

pub returns : goal.returns
returns c = inr (refl, none_end _ _ _ _ _ c.loop-i-test.false c.loop-i.invariant)
