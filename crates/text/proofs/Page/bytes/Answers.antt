-- `text::Page::bytes` meets its contract: the part that is copied over holds the bytes.
-- Assumes nothing.
use Rattle.std.proofs.Common.{refl, ◌∙◌, ap, arith, length}
use lib.Seq.{length-sets}
use Rattle.text.proofs.PutLaws.{put-part}
use Rattle.text.proofs.Page.bytes.Goals as goal

pub returns : goal.returns
returns c =
    let e = put-part _ _ _ _ _ c.copy_from_slice.ensures.after (omega arith) (omega arith) in
    let p = c.args.self.now in
    record {
      put = record { holds = e; moves = refl };
      long = ap length e ∙ length-sets p.out.now p.at c.args.bytes.now;
      same = refl;
    }
