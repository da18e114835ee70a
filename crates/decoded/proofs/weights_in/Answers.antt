-- `decoded::weights_in` meets its contract: each weight is that of its word, which is at most the greatest.
-- Assumes nothing.
use Rattle.decoded.proofs.HeldLaws.{weight-words}
use Rattle.decoded.proofs.weights_in.Goals as goal

pub weight_of-requires : goal.weight_of-requires
weight_of-requires c = rw c.head_word.ensures.0 (weight-words c.args.bytes.now c.requires.1).0

pub weight_of-requires-2 : goal.weight_of-requires-2
weight_of-requires-2 c = rw c.head_word-2.ensures.0 (weight-words c.args.bytes.now c.requires.1).1
