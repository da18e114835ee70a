-- `price::is_reaching` meets its contract: its test is that of the definition.
-- Assumes nothing.
use mathlib.Core.Path.{refl}
use Rattle.price.specs.Charge.{reaches}
use Rattle.price.proofs.is_reaching.Statement.{statement}
use Rattle.price.proofs.is_reaching.Tie as tie

returns : tie.Need-returns
unfolding reaches
returns c = refl

pub is_reaching_spec : {M : Type 1} → statement M
is_reaching_spec = tie.close (tie.spec returns)
