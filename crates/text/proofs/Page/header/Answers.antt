-- `text::Page::header` meets its contract: its two halves, one behind the other.
-- Assumes nothing.
use Rattle.std.proofs.Common.{arith}
use Rattle.text.specs.Text.{header}
use Rattle.text.proofs.PutLaws.{wrote_then}
use Rattle.text.proofs.Page.header.Goals as goal

pub returns : goal.returns
unfolding header
returns c =
    record {
      wrote = wrote_then c.counts.ensures.wrote c.totals.ensures.wrote;
      within = omega (arith, c.counts.ensures.within, c.totals.ensures.within);
    }
