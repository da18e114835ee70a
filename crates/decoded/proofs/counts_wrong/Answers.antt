-- `decoded::counts_wrong` meets its contract: its test is that of the definition; the lists' lengths have 64 bits, and so has the sum of
-- their blocks.
-- Assumes nothing.
use Rattle.std.proofs.Common.{ℕ, ◌+◌, ◌/◌, not, eqb, length, ap, ap₂, ◌∙◌, arith}
use Rattle.blocks.specs.Sizes.{block_bytes, blocks_for}
use Rattle.decoded.specs.Held.{counts_wrong}
use Rattle.blocks.proofs.SizeLaws.{no_more}
use Rattle.decoded.proofs.counts_wrong.Goals as goal

pub overflow_add-result : goal.overflow_add-result
overflow_add-result c = omega (arith, no_more c.pin_length.result)

pub overflow_add-result-2 : goal.overflow_add-result-2
overflow_add-result-2 c = omega (arith, no_more c.pin_length.result, no_more c.macro_length.result)

pub returns : goal.returns
unfolding counts_wrong
returns c =
    ap₂ (λ (n k : ℕ). not (eqb (length c.args.bytes.now / block_bytes) (1 + n + k)))
    (c.blocks_for-pin_blocks.ensures ∙ ap blocks_for c.pin_length.ensures)
    (c.blocks_for-macro_blocks.ensures ∙ ap blocks_for c.macro_length.ensures)
