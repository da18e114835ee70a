-- Blocks and the numbers that they hold: a list's blocks have room for it, block by block, and the longest file for every list that a net
-- may have. What is needed of `blocks_for` above stands here.
-- Assumes nothing.
use Rattle.std.proofs.Common.{ℕ, ◌+◌, ◌*◌, ◌/◌, ◌<◌, ◌≤◌, arith}
use Rattle.blocks.specs.Sizes.{per_block, pin_list_bound, macro_list_bound, blocks_for, block_count, file_blocks, file_numbers}

-- the blocks of n numbers hold them
pub enough : (n : ℕ) → n ≤ blocks_for n * per_block
unfolding blocks_for
enough n = omega arith

-- the number j stands in one of them
pub block_within : (n j : ℕ) → j < n → j / per_block < blocks_for n
unfolding blocks_for
block_within n j h = omega arith

-- and each of them begins with a number
pub begins-within : (n b : ℕ) → b < blocks_for n → b * per_block < n
unfolding blocks_for
begins-within n b h = omega arith

-- and there are no more of them than it takes
pub no_more : (n : ℕ) → blocks_for n * per_block < n + per_block
unfolding blocks_for
no_more n = omega arith

-- fewer numbers take no more blocks
pub fewer : (n m : ℕ) → n ≤ m → blocks_for n ≤ blocks_for m
unfolding blocks_for
fewer n m h = omega arith

-- F16: the longest lists of a net fit into the longest file
pub lists-in-file : (n k : ℕ) → n ≤ pin_list_bound → k ≤ macro_list_bound → block_count n k ≤ file_blocks
unfolding blocks_for
lists-in-file n k h g = omega arith

-- lists whose blocks fit there have no more numbers than it has room for
module _ (n k : ℕ) (fit : block_count n k ≤ file_blocks) where
  pub pins-few : n ≤ file_numbers
  pins-few = omega (arith, enough n)

  pub macros-few : k ≤ file_numbers
  macros-few = omega (arith, enough k)
