-- `blocks::block_at` meets its contract.
-- Assumes nothing.
use Rattle.std.proofs.Common.{◌≡◌, ℕ, List, set, replicate, refl, ◌∙◌, ap₂, arith}
use Rattle.lent.specs.Over.{over}
use Rattle.blocks.specs.Sizes.{block_words}
use Rattle.blocks.specs.Words.{words_of}
use Rattle.blocks.specs.Block.{block_of}
use Rattle.blocks.proofs.BytesLaws.{read_more, block-full}
use Rattle.blocks.proofs.FillLaws.{over-full}
use Rattle.blocks.proofs.block_at.Goals as goal

pub loop-i-init : goal.loop-i-init
unfolding over
loop-i-init c = refl

pub loop-i-preserved : goal.loop-i-preserved
loop-i-preserved c =
    ap₂ (λ (t : List ℕ) (v : ℕ). set t c.loop-i.i v) c.loop-i.invariant c.word_at.ensures
    ∙ read_more c.args.bytes.now c.args.b c.loop-i.i c.requires (omega arith)

pub returns : goal.returns
returns c =
    let e : c.loop-i.i ≡ block_words = omega arith in
    let f = block-full c.args.bytes.now c.args.b c.requires in
    rw e at c.loop-i.invariant ∙ over-full (block_of c.args.b (words_of c.args.bytes.now)) (replicate block_words 0) (omega (arith, f))
