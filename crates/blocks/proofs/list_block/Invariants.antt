-- The table is the first four words and the words of the numbers passed, over zeros.
use Rattle.std.proofs.Common.{◌≡◌, ◌/◌, ◌∷◌, map, length, take, replicate}
use Rattle.lent.specs.Over.{over}
use Rattle.blocks.specs.Sizes.{block_words}
use Rattle.blocks.specs.Words.{word_of}
use Rattle.blocks.proofs.list_block.Given as goal

abbrev pub invariant-loop-i : goal.invariant-loop-i
invariant-loop-i l =
    l.t ≡ over (l.kind ∷ (l.number ∷ (length l.numbers / l.w ∷ (0 ∷ map word_of (take l.i l.numbers)))))
    (replicate block_words 0)
