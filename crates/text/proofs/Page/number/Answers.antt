-- `text::Page::number` meets its contract: a number, and a byte.
-- Assumes nothing.
use Rattle.std.proofs.Common.{arith, w64}
use mir.ValLaws.{to_z-of_z}
use Rattle.text.proofs.PutLaws.{wrote_then}
use Rattle.text.proofs.Page.number.Goals as goal

pub returns : goal.returns
returns c =
    record {
      wrote = wrote_then (rw (to_z-of_z w64 _ c.ranges.z) at c.whole.ensures.wrote) c.byte.ensures;
      within = omega (arith, c.whole.ensures.within, c.byte.ensures.put.moves);
    }
