-- `blocks::put_word` meets its contract: the bytes that are copied are those of the definition.
-- Assumes nothing.
use Rattle.std.proofs.Common.{◌≡◌, ◌*◌, sym, refl, ◌∙◌, arith}
use Rattle.std.proofs.lemmas.List.Edits.{sets-eq}
use Rattle.std.proofs.lemmas.Slice.{put_mid-paste}
use Rattle.blocks.specs.Words.{bytes_of_word}
use Rattle.blocks.proofs.put_word.Goals as goal

pub returns : goal.returns
unfolding bytes_of_word
returns c =
    let s = c.args.bytes.now in
    let k = c.args.i * 4 in
    let wrote : c.copy_from_slice.new.self ≡ bytes_of_word c.args.w = c.copy_from_slice.ensures.after ∙ c.to_le_bytes.ensures in
    put_mid-paste k _ s _ (bytes_of_word c.args.w) 4 wrote (omega arith) refl ∙ sym (sets-eq (bytes_of_word c.args.w) s k (omega arith))
