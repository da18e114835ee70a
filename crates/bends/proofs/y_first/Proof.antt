-- `bends::y_first` meets its contract.
-- Assumes nothing.
use borrow.Author.Rules.{rules}
use Rattle.slide.specs.Bend.{y_first}
use Rattle.bends.proofs.y_first.Statement.{statement}
use Rattle.bends.proofs.y_first.Tie as tie

returns : tie.Need-returns
unfolding y_first
returns c = search rules

pub y_first_spec : {M : Type 1} → statement M
y_first_spec = tie.close (tie.spec returns)
