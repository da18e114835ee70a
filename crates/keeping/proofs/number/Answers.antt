use Rattle.std.proofs.Common.{refl}
use Rattle.forest.proofs.EdgeLaws.{fill_more, fill_end}
use Rattle.keeping.proofs.number.Goals as goal

pub loop-k-preserved : goal.loop-k-preserved
loop-k-preserved c = fill_more _ _ _ _ _ _ c.loop-k.invariant c.loop-k-test.true refl

pub returns : goal.returns
returns c = fill_end _ _ _ _ _ c.loop-k.invariant c.loop-k-test.false
