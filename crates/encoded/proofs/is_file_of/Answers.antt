-- `encoded::is_file_of` meets its contract: the file of the two lists is laid out over zeros, and compared as far as it reaches.
-- Assumes nothing.
use Rattle.std.proofs.Common.{replicate, ap, sym, ◌∙◌}
use Rattle.blocks.specs.Sizes.{file_bound}
use Rattle.encoded.specs.Layout.{stored, file_bytes}
use Rattle.encoded.specs.Same.{same_numbers}
use Rattle.blocks.proofs.FillLaws.{front-of-over}
use Rattle.encoded.proofs.LayoutLaws.{length-file}
use Rattle.encoded.proofs.SameLaws.{same_as}
use Rattle.encoded.proofs.is_file_of.Goals as goal

pub returns : goal.returns
returns c =
    let a = c.args in
    let f = file_bytes a.w a.pins.now a.macros.now in
    c.eq.ensures
    ∙ same_as _ _
    ∙ ap (same_numbers a.bytes.now)
    (front-of-over f _ (replicate file_bound 0) c.file_length-n.result c.put_file.ensures
    (length-file a.w (stored a.pins.now) a.macros.now ∙ sym c.file_length-n.ensures))
