-- The two sums of a block.
use Rattle.std.specs.Prelude.{ℕ, ◌+◌, ◌%◌, Bool, not, ◌||◌, List, [], ◌∷◌, ◌++◌, take, ◌==◌, slice_index}
use Rattle.blocks.specs.Sizes.{summed_words, second_sum}

unfoldable pub total : List ℕ → ℕ
total [] = 0
total (w ∷ ws) = w + total ws

-- the running sums of ws after s
unfoldable pub running_sums : ℕ → List ℕ → List ℕ
running_sums s [] = []
running_sums s (w ∷ ws) = (s + w) ∷ running_sums (s + w) ws

-- F11: the words before the sums added up modulo 2^32
unfoldable pub plain_sum : List ℕ → ℕ
plain_sum ws = total ws % 4294967296

-- F12: their running sums added up modulo 2^32
unfoldable pub sum_of_sums : List ℕ → ℕ
sum_of_sums ws = total (running_sums 0 ws) % 4294967296

-- the words of a block, and then its two sums
unfoldable pub sealed : List ℕ → List ℕ
sealed ws = ws ++ (plain_sum ws ∷ (sum_of_sums ws ∷ []))

-- C2, for one block: one of its last two words is not the sum
unfoldable pub wrong_sums : List ℕ → Bool
wrong_sums block =
    not (slice_index block summed_words == plain_sum (take summed_words block))
    || not (slice_index block second_sum == sum_of_sums (take summed_words block))
