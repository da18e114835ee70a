-- `decoded::head_word` meets its contract: a word of the head is one of the file's words.
-- Assumes nothing.
use Rattle.std.proofs.Common.{sym, ◌∙◌, arith}
use Rattle.decoded.specs.Held.{head_word}
use Rattle.blocks.proofs.BytesLaws.{word-is}
use Rattle.decoded.proofs.head_word.Goals as goal

pub returns : goal.returns
unfolding head_word
returns c = (c.word_at.ensures ∙ sym (word-is c.args.bytes.now c.args.i c.requires), omega arith)
