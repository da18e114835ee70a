-- The table is the words passed, over zeros.
use Rattle.std.proofs.Common.{◌≡◌, ◌*◌, take, drop, replicate}
use Rattle.lent.specs.Over.{over}
use Rattle.blocks.specs.Sizes.{block_words}
use Rattle.blocks.specs.Words.{words_of}
use Rattle.blocks.proofs.block_at.Given as goal

abbrev pub invariant-loop-i : goal.invariant-loop-i
invariant-loop-i l = l.w-items ≡ over (take l.i (drop (l.b * block_words) (words_of l.bytes))) (replicate block_words 0)
