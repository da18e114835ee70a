-- `blocks::head_block` meets its contract: over zeros stand the kind, the counts and the words of the weights.
-- Assumes nothing.
use Rattle.std.proofs.Common.{ℕ, [], ◌∷◌, ◌∙◌, ap₂}
use Rattle.lent.specs.Over.{over}
use Rattle.blocks.specs.Sizes.{head_kind}
use Rattle.blocks.specs.Block.{block, head_block}
use Rattle.blocks.proofs.head_block.Goals as goal

pub returns : goal.returns
unfolding over block head_block
returns c =
    c.seal.ensures
    ∙ ap₂ (λ (first second : ℕ). block head_kind 0 0 (c.args.m ∷ (c.args.k ∷ (first ∷ (second ∷ [])))))
    c.weight_word.ensures c.weight_word-2.ensures
