-- `text::Page::tree` meets its contract: the header, and the lines behind it.
-- Assumes nothing.
use Rattle.std.proofs.Common.{arith}
use Rattle.text.specs.Text.{tree_text}
use Rattle.text.proofs.PutLaws.{wrote_then}
use Rattle.text.proofs.Page.tree.Goals as goal

pub returns : goal.returns
unfolding tree_text
returns c =
    record {
      wrote = wrote_then c.header.ensures.wrote c.edges.ensures.wrote;
      within = omega (arith, c.header.ensures.within, c.edges.ensures.within);
    }
