-- `decoded::head_wrong` meets its contract: its two tests are those of the definition.
-- Assumes nothing.
use Rattle.std.proofs.Common.{refl}
use Rattle.decoded.specs.Held.{head_wrong}
use Rattle.decoded.proofs.head_wrong.Goals as goal

pub returns-then-counts_wrong : goal.returns-then-counts_wrong
unfolding head_wrong
returns-then-counts_wrong c = rw (← c.counts_wrong.ensures, c.if-counts_wrong.true) refl

pub returns-else-counts_wrong : goal.returns-else-counts_wrong
unfolding head_wrong
returns-else-counts_wrong c = rw (← c.counts_wrong.ensures, ← c.weights_miswritten.ensures, c.if-counts_wrong.false) refl
