-- The blocks that are left decide.
use Rattle.std.proofs.Common.{◌≡◌, ◌-◌, ◌*◌, ◌/◌, length, drop}
use Rattle.lists.specs.Any.{any}
use Rattle.blocks.specs.Sizes.{block_words, block_bytes}
use Rattle.blocks.specs.Words.{words_of}
use Rattle.blocks.specs.Sums.{wrong_sums}
use Rattle.decoded.specs.Held.{blocks_of}
use Rattle.decoded.proofs.any_wrong_sums.Given as goal

abbrev pub invariant-loop-b : goal.invariant-loop-b
invariant-loop-b l =
    any wrong_sums (blocks_of (length l.bytes / block_bytes) (words_of l.bytes))
    ≡ any wrong_sums (blocks_of (length l.bytes / block_bytes - l.b) (drop (l.b * block_words) (words_of l.bytes)))
