-- `text::Page::counts` meets its contract: two words with their counts.
-- Assumes nothing.
use Rattle.std.proofs.Common.{arith}
use Rattle.text.proofs.PutLaws.{wrote_then, wrote_as}
use Rattle.text.proofs.LineLaws.{counts-line}
use Rattle.text.proofs.Page.counts.Goals as goal

pub returns : goal.returns
returns c =
    record {
      wrote = wrote_as (counts-line c.args.m c.args.k) (wrote_then c.count.ensures.wrote c.count-2.ensures.wrote);
      within = omega (arith, c.count.ensures.within, c.count-2.ensures.within);
    }
