-- The two sums a word at a time: one word more changes each by one wrapping add.
-- Assumes nothing.
use Rattle.std.proofs.Common.{◌≡◌, ℕ, ◌+◌, ◌%◌, ◌<◌, List, [], ◌∷◌, ◌++◌, length, get_or, take, add-one, arith, take-suc}
use Rattle.blocks.specs.Sums.{total, running_sums, plain_sum, sum_of_sums}

total-more : (ws : List ℕ) (w : ℕ) → total (ws ++ (w ∷ [])) ≡ total ws + w
unfolding total
total-more [] w = omega arith
total-more (v ∷ ws) w = omega (arith, total-more ws w)

-- the last running sum is the whole sum
running_more : (s : ℕ) (ws : List ℕ) (w : ℕ) → total (running_sums s (ws ++ (w ∷ []))) ≡ total (running_sums s ws) + (s + total ws + w)
unfolding total running_sums
running_more s [] w = omega arith
running_more s (v ∷ ws) w = omega (arith, running_more (s + v) ws w)

module _ (ws : List ℕ) (i w : ℕ) (more : take (i + 1) ws ≡ take i ws ++ (w ∷ [])) where
  pub plain_more : (plain_sum (take i ws) + w) % 4294967296 ≡ plain_sum (take (i + 1) ws)
  unfolding plain_sum
  plain_more = rw more (omega (arith, total-more (take i ws) w))

  pub sums-more : (sum_of_sums (take i ws) + plain_sum (take (i + 1) ws)) % 4294967296 ≡ sum_of_sums (take (i + 1) ws)
  unfolding plain_sum sum_of_sums
  sums-more = rw more (omega (arith, total-more (take i ws) w, running_more 0 (take i ws) w))

-- one word more of a block
pub word_more : (ws : List ℕ) (i : ℕ) → i < length ws → take (i + 1) ws ≡ take i ws ++ (get_or ws i 0 ∷ [])
word_more ws i h = rw add-one (take-suc ws i 0 h)
