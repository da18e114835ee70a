use Rattle.sweeps.proofs.TableLaws.{start-row}
use Rattle.sweeps.proofs.start.Goals as goal

pub returns : goal.returns
returns c = start-row _ _ c.fill.ensures c.requires.1
