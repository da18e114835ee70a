-- `decoded::number_in` meets its contract: the word at the number's place, as a coordinate.
-- Assumes nothing.
use Rattle.std.proofs.Common.{◌+◌, ◌*◌, sym, ap, ◌∙◌, arith, w32, rules}
use mir.ValLaws.{to_z-of_z}
use Rattle.blocks.specs.Sizes.{block_words}
use Rattle.blocks.specs.Words.{coordinate}
use Rattle.decoded.specs.Held.{place_in, number_in}
use Rattle.blocks.proofs.BytesLaws.{word-is}
use Rattle.decoded.proofs.number_in.Goals as goal

pub returns : goal.returns
unfolding number_in
returns c =
    to_z-of_z w32 _ (search rules)
    ∙ c.coordinate_of.ensures
    ∙ ap coordinate (c.word_at.ensures ∙ sym (word-is c.args.bytes.now (c.args.b * block_words + place_in c.args.j) (omega arith)))
