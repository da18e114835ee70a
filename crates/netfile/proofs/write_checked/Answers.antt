-- `netfile::write_checked` meets its contract: the file's bytes are its blocks, 512 each; where they fit they are laid out.
-- Assumes nothing.
use Rattle.std.proofs.Common.{◌≡◌, ◌∙◌, sym, ap, arith, length}
use Rattle.lent.specs.Told.{given}
use Rattle.lent.proofs.AfterLaws.{after-refused, after-given}
use Rattle.net.specs.Answer.{number, told_by}
use Rattle.encoded.specs.Layout.{stored, file_bytes}
use Rattle.encoded.proofs.LayoutLaws.{length-file}
use Rattle.netfile.proofs.WriteLaws.{fitted_short, fitted-given}
use Rattle.netfile.proofs.write_checked.Goals as goal

pub returns-then-bytes-n : goal.returns-then-bytes-n
unfolding told_by number
returns-then-bytes-n c =
    let a = c.args in
    let f = file_bytes a.w a.pins.now a.macros.now in
    let n = length-file a.w (stored a.pins.now) a.macros.now in
    let e = fitted_short (length f) (length a.bytes.now) (omega (arith, n, c.file_length-n.ensures)) in
    record { answer = sym e; lent = after-refused _ f a.bytes.now 21 e }

pub returns : goal.returns
unfolding told_by
returns c =
    let a = c.args in
    let b = a.bytes.now in
    let f = file_bytes a.w a.pins.now a.macros.now in
    let n = length-file a.w (stored a.pins.now) a.macros.now in
    let e : c.file_length-n.result ≡ length f = c.file_length-n.ensures ∙ sym n in
    let g = fitted-given (length f) (length b) (omega (arith, n, c.file_length-n.ensures)) in
    record { answer = ap given e ∙ sym g; lent = c.put_file.ensures ∙ after-given _ f b (length f) g }
