use Rattle.grid.proofs.GivenLaws.{start-set}
use Rattle.grid.proofs.start.Goals as goal

pub returns : goal.returns
returns c = start-set _ _ c.requires.0 c.requires.1
