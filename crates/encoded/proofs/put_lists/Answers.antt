-- `encoded::put_lists` meets its contract: head, pins and macros are laid out one behind the other.
-- Assumes nothing.
use Rattle.std.proofs.Common.{ℕ, ◌+◌, ◌*◌, ◌/◌, List, length, ap, ap₂, ◌∙◌, div-le_self, arith}
use Rattle.std.proofs.lemmas.List.Edits.{sets}
use Rattle.net.specs.Bounds.{macro_width}
use Rattle.blocks.specs.Kind.{kind_word, kind_width}
use Rattle.blocks.specs.Sizes.{block_bytes, macro_kind, blocks_for}
use Rattle.blocks.specs.Words.{bytes_of}
use Rattle.blocks.specs.Block.{head_block}
use Rattle.encoded.specs.Layout.{list_blocks, Stored}
use Rattle.blocks.proofs.SizeLaws.{pins-few, macros-few}
use Rattle.encoded.proofs.LayoutLaws.{file-laid}
use Rattle.encoded.proofs.put_lists.Goals as goal

pub head_block-requires : goal.head_block-requires
head_block-requires c =
    let n = length c.args.numbers.now in
    (omega (arith, pins-few _ _ c.requires.0, div-le_self n c.width.result), omega (arith, macros-few _ _ c.requires.0))

pub put_list-requires-2 : goal.put_list-requires-2
put_list-requires-2 c = (omega arith, omega arith)

pub returns : goal.returns
returns c =
    let a = c.args in
    let kept : Stored = record { kind = kind_word a.kind; width = kind_width a.kind; numbers = a.numbers.now } in
    let m = a.macros.now in
    c.put_list-2.ensures
    ∙ ap₂ (λ (l : List ℕ) (n : ℕ). sets l (n * block_bytes) (bytes_of (list_blocks macro_kind macro_width n (blocks_for (length m)) m)))
    (c.put_list.ensures
    ∙ ap
    (λ (l : List ℕ). sets l block_bytes (bytes_of (list_blocks kept.kind kept.width 1 (blocks_for (length kept.numbers)) kept.numbers)))
    (c.put_block.ensures ∙ ap (λ (t : List ℕ). sets a.bytes.now 0 (bytes_of t)) (c.head_block.ensures
    ∙ ap₂ (λ (w n : ℕ). head_block (length kept.numbers / w) n a.weights) c.width.ensures.0 c.macro_count.ensures)))
    (ap (λ (n : ℕ). 1 + n) c.blocks_for-first.ensures)
    ∙ file-laid a.bytes.now a.weights kept m (omega arith)
