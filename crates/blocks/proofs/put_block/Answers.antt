-- `blocks::put_block` meets its contract.
-- Assumes nothing.
use Rattle.std.proofs.Common.{◌≡◌, ℕ, ◌+◌, ◌*◌, List, get_or, refl, ap, ◌∙◌, ap₂, arith, take_all}
use Rattle.std.proofs.lemmas.List.Edits.{sets}
use Rattle.blocks.specs.Sizes.{block_words, block_bytes}
use Rattle.blocks.specs.Words.{bytes_of_word, bytes_of}
use Rattle.blocks.proofs.BlockLaws.{put-more}
use Rattle.blocks.proofs.put_block.Goals as goal

pub loop-i-init : goal.loop-i-init
unfolding bytes_of
loop-i-init c = refl

pub loop-i-preserved : goal.loop-i-preserved
loop-i-preserved c =
    let i = c.loop-i.i in
    let e : (c.args.number * block_words + i) * 4 ≡ c.args.number * block_bytes + i * 4 = omega arith in
    c.put_word.ensures
    ∙ ap₂ (λ (bs : List ℕ) (k : ℕ). sets bs k (bytes_of_word (get_or c.args.block i 0))) c.loop-i.invariant e
    ∙ put-more _ c.args.block (c.args.number * block_bytes) i (omega arith)

pub returns : goal.returns
returns c =
    c.loop-i.invariant
    ∙ ap (λ (ws : List ℕ). sets c.args.bytes.now (c.args.number * block_bytes) (bytes_of ws))
    (take_all c.loop-i.i c.args.block (omega arith))
