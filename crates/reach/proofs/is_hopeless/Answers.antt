use Rattle.std.proofs.Common.{refl}
use Rattle.reach.specs.Hopeless.{hopeless}
use Rattle.reach.proofs.is_hopeless.Goals as goal

pub returns : goal.returns
unfolding hopeless
returns c = refl
