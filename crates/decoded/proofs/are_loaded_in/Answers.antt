-- `decoded::are_loaded_in` meets its contract: the first word after the head's block, where there is one.
-- Assumes nothing.
use Rattle.std.proofs.Common.{ℕ, eqb, sym, ap, ap₂, ◌∙◌, arith}
use Rattle.std.proofs.lemmas.Bool.{lt-leb}
use Rattle.blocks.specs.Sizes.{block_words, loaded_kind}
use Rattle.decoded.specs.Held.{loaded_in}
use Rattle.blocks.proofs.BytesLaws.{word-is, word_none}
use Rattle.decoded.proofs.are_loaded_in.Goals as goal

pub returns-then-bytes : goal.returns-then-bytes
unfolding loaded_in
returns-then-bytes c = ap₂ eqb (c.word_at.ensures ∙ sym (word-is c.args.bytes.now block_words (omega arith))) c.word.ensures

pub returns-else-bytes : goal.returns-else-bytes
unfolding loaded_in
returns-else-bytes c =
    lt-leb _ _ c.if-bytes.false ∙ sym (ap (λ (k : ℕ). eqb k loaded_kind) (word_none c.args.bytes.now block_words (omega arith)))
