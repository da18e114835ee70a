-- `bends::x_first` meets its contract.
-- Assumes nothing.
use borrow.Author.Rules.{rules}
use Rattle.slide.specs.Bend.{x_first}
use Rattle.bends.proofs.x_first.Statement.{statement}
use Rattle.bends.proofs.x_first.Tie as tie

returns : tie.Need-returns
unfolding x_first
returns c = search rules

pub x_first_spec : {M : Type 1} → statement M
x_first_spec = tie.close (tie.spec returns)
