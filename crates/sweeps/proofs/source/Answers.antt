use Rattle.std.proofs.Common.{arith}
use Rattle.sweeps.specs.Tables.{source}
use Rattle.sweeps.proofs.source.Goals as goal

pub returns : goal.returns
unfolding source
returns c = let e = c.offset.ensures in omega (arith, e.0)
