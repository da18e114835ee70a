-- `decoded::weights_miswritten` meets its contract: its tests are those of the definition, and the code's bound is the definition's.
-- Assumes nothing.
use Rattle.std.proofs.Common.{refl, lt-ltb, le-ltb}
use Rattle.net.specs.Bounds.{weight_bound}
use Rattle.decoded.specs.Held.{weights_miswritten}
use Rattle.decoded.proofs.weights_miswritten.Goals as goal

pub returns-then-first-gt-WEIGHT : goal.returns-then-first-gt-WEIGHT
unfolding weights_miswritten
returns-then-first-gt-WEIGHT c = rw (← c.head_word-first.ensures.0, lt-ltb weight_bound _ c.if-first-gt-WEIGHT.true) refl

pub returns-else-first-gt-WEIGHT : goal.returns-else-first-gt-WEIGHT
unfolding weights_miswritten
returns-else-first-gt-WEIGHT c =
    rw (← c.head_word-first.ensures.0, ← c.head_word-second.ensures.0, le-ltb weight_bound _ c.if-first-gt-WEIGHT.false) refl
