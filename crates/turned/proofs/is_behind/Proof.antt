-- `turned::is_behind` meets its contract, each answer by the law of its case.
-- Assumes nothing.
use mathlib.Core.Path.{refl}
use Rattle.turned.specs.Turned.{behind_of}
use Rattle.turned.proofs.is_behind.Statement.{statement}
use Rattle.turned.proofs.is_behind.Tie as tie

returns : tie.Need-returns
unfolding behind_of
returns c = refl

pub is_behind_spec : {M : Type 1} → statement M
is_behind_spec = tie.close (tie.spec returns)
