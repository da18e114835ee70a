-- `blocks::has_wrong_sums` meets its contract: its tests are those of the definition.
-- Assumes nothing.
use Rattle.std.proofs.Common.{refl, eq-eqb, ne_eqb}
use Rattle.blocks.specs.Sums.{wrong_sums}
use Rattle.blocks.proofs.has_wrong_sums.Goals as goal

pub returns-then-block-s : goal.returns-then-block-s
unfolding wrong_sums
returns-then-block-s c = rw (← c.sums_of-s.ensures.0, ne_eqb _ _ c.if-block-s.true) refl

pub returns-else-block-s : goal.returns-else-block-s
unfolding wrong_sums
returns-else-block-s c = rw (← c.sums_of-s.ensures.0, ← c.sums_of-s.ensures.1, eq-eqb _ _ c.if-block-s.false) refl
