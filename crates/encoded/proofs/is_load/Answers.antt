-- `encoded::is_load` meets its contract.
-- Assumes nothing.
use Rattle.encoded.proofs.StoredLaws.{load_is}
use Rattle.encoded.proofs.is_load.Goals as goal

pub returns : goal.returns
returns c = load_is c.args.z c.ranges.z
