-- `turned::is_ahead` meets its contract, each answer by the law of its case.
-- Assumes nothing.
use mathlib.Core.Path.{refl}
use Rattle.turned.specs.Turned.{ahead_of}
use Rattle.turned.proofs.is_ahead.Statement.{statement}
use Rattle.turned.proofs.is_ahead.Tie as tie

returns : tie.Need-returns
unfolding ahead_of
returns c = refl

pub is_ahead_spec : {M : Type 1} → statement M
is_ahead_spec = tie.close (tie.spec returns)
