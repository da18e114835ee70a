-- `text::Page::count` meets its contract: a word, and at most 20 digits.
-- Assumes nothing.
use Rattle.std.proofs.Common.{arith}
use Rattle.text.proofs.TextLaws.{decimal-short}
use Rattle.text.proofs.PutLaws.{wrote_then}
use Rattle.text.proofs.Page.count.Goals as goal

pub decimal-requires : goal.decimal-requires
decimal-requires c =
    omega (arith, decimal-short 19 c.args.n (omega (arith, c.ranges.n)), c.bytes.ensures.put.moves, c.bytes.ensures.long)

pub returns : goal.returns
returns c =
    record {
      wrote = wrote_then c.bytes.ensures c.decimal.ensures;
      within = omega (
        arith,
        decimal-short 19 c.args.n (omega (arith, c.ranges.n)),
        c.bytes.ensures.put.moves,
        c.decimal.ensures.put.moves,
      );
    }
