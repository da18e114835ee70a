-- `moves::opposite` meets its contract, side by side.
-- Assumes nothing.
use borrow.Author.Rules.{rules}
use mathlib.Core.Path.{sym, ap}
use Rattle.moves.specs.Moving.{opposite}
use Rattle.moves.proofs.opposite.Statement.{statement}
use Rattle.moves.proofs.opposite.Tie as tie

returns : tie.Need-returns-in-Above
unfolding opposite
returns c = sym (ap opposite c.in-Above.is)

returns-2 : tie.Need-returns-in-Below
unfolding opposite
returns-2 c = sym (ap opposite c.in-Below.is)

returns-3 : tie.Need-returns-in-Right
unfolding opposite
returns-3 c = sym (ap opposite c.in-Right.is)

returns-4 : tie.Need-returns-in-Left
unfolding opposite
returns-4 c = sym (ap opposite c.in-Left.is)

pub opposite_spec : {M : Type 1} → statement M
opposite_spec =
    tie.close (tie.spec (λ c. search rules) (λ c. search rules) (λ c. search rules) (λ c. search rules) returns returns-2
    returns-3 returns-4)
