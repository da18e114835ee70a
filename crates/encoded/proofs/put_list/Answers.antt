-- `encoded::put_list` meets its contract.
-- Assumes nothing.
use Rattle.std.proofs.Common.{◌≡◌, ℕ, ◌+◌, ◌*◌, List, length, drop, refl, ap, ap₂, ◌∙◌, arith}
use Rattle.std.proofs.lemmas.List.Edits.{sets}
use Rattle.blocks.specs.Kind.{kind_word, kind_width}
use Rattle.blocks.specs.Sizes.{block_bytes, per_block, blocks_for}
use Rattle.blocks.specs.Words.{bytes_of}
use Rattle.encoded.specs.Layout.{list_blocks}
use Rattle.blocks.proofs.SizeLaws.{begins-within}
use Rattle.blocks.proofs.BlockLaws.{length-next-block}
use Rattle.encoded.proofs.LayoutLaws.{list-more}
use Rattle.encoded.proofs.put_list.Goals as goal

pub loop-j-init : goal.loop-j-init
unfolding bytes_of list_blocks
loop-j-init c = refl

pub next_block-requires : goal.next_block-requires
next_block-requires c = (omega arith, omega (arith, begins-within (length c.args.numbers.now) c.loop-j.j (omega arith)))

pub put_block-requires : goal.put_block-requires
put_block-requires c =
    (ap length c.next_block.ensures ∙ length-next-block _ _ _ (drop (c.loop-j.j * per_block) c.args.numbers.now), omega arith)

pub loop-j-preserved : goal.loop-j-preserved
loop-j-preserved c =
    let a = c.args in
    let j = c.loop-j.j in
    c.put_block.ensures
    ∙ ap₂ (λ (bs ws : List ℕ). sets bs ((a.first + j) * block_bytes) (bytes_of ws)) c.loop-j.invariant c.next_block.ensures
    ∙ list-more a.bytes.now (kind_word a.kind) (kind_width a.kind) a.first j a.numbers.now

pub returns : goal.returns
returns c =
    let a = c.args in
    let e : c.loop-j.j ≡ blocks_for (length a.numbers.now) = omega arith in
    let blocks = list_blocks (kind_word a.kind) (kind_width a.kind) a.first in
    c.loop-j.invariant ∙ ap (λ (n : ℕ). sets a.bytes.now (a.first * block_bytes) (bytes_of (blocks n a.numbers.now))) e
