-- The number of a place is its rank.
use Rattle.std.proofs.Common.{◌∙◌}
use Rattle.sorted.proofs.NumberLaws.{entries-in-order, rank-position}
use Rattle.terminal.proofs.number_of.Goals as goal

pub rank-requires : goal.rank-requires
rank-requires c = (c.requires.0, entries-in-order _ _ c.requires.1)

pub returns : goal.returns
returns c = c.rank.ensures.0 ∙ rank-position _ _ _
