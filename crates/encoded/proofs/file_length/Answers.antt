-- `encoded::file_length` meets its contract: the blocks of the head and of both lists.
-- Assumes nothing.
use Rattle.std.proofs.Common.{◌≡◌, ℕ, ◌+◌, ◌*◌, length, ap, ap₂, ◌∙◌, arith}
use Rattle.blocks.specs.Sizes.{block_bytes, blocks_for}
use Rattle.encoded.specs.Layout.{stored}
use Rattle.encoded.proofs.file_length.Goals as goal

pins-counted : (c : goal.After-blocks_for) → c.blocks_for.result ≡ blocks_for (length (stored c.args.pins.now).numbers)
pins-counted c = c.blocks_for.ensures ∙ ap blocks_for c.stored_length.ensures

pub overflow_add-result : goal.overflow_add-result
overflow_add-result c = omega (arith, pins-counted c)

pub overflow_add-result-2 : goal.overflow_add-result-2
overflow_add-result-2 c = omega (arith, pins-counted c.before, c.blocks_for-2.ensures)

pub overflow_mul-result : goal.overflow_mul-result
overflow_mul-result c = omega (arith, pins-counted c.before, c.blocks_for-2.ensures)

pub returns : goal.returns
returns c = ap₂ (λ (n k : ℕ). (1 + n + k) * block_bytes) (pins-counted c.before) c.blocks_for-2.ensures
