-- `text::Page::total` meets its contract: a word, and a whole number.
-- Assumes nothing.
use Rattle.std.proofs.Common.{arith, w64}
use mir.ValLaws.{to_z-of_z}
use Rattle.text.proofs.PutLaws.{wrote_then}
use Rattle.text.proofs.Page.total.Goals as goal

pub returns : goal.returns
returns c =
    record {
      wrote = wrote_then c.bytes.ensures (rw (to_z-of_z w64 _ c.ranges.z) at c.whole.ensures.wrote);
      within = omega (arith, c.bytes.ensures.put.moves, c.whole.ensures.within);
    }
