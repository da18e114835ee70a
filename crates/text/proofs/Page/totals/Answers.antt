-- `text::Page::totals` meets its contract: three words with their numbers, and the line's end.
-- Assumes nothing.
use Rattle.std.proofs.Common.{arith, w64, SFits, rules}
use mir.ValLaws.{to_z-of_z}
use Rattle.text.proofs.PutLaws.{wrote_then, wrote_as}
use Rattle.text.proofs.LineLaws.{totals-line}
use Rattle.text.proofs.Page.totals.Goals as goal

pub returns : goal.returns
returns c =
    let h = c.args.h in
    let terminal-fits : SFits w64 h.terminal = search rules in
    let refined-fits : SFits w64 h.refined = search rules in
    let metal-fits : SFits w64 h.metal = search rules in
    let terminal = rw (to_z-of_z w64 _ terminal-fits) at c.total.ensures.wrote in
    let refined = rw (to_z-of_z w64 _ refined-fits) at c.total-2.ensures.wrote in
    let metal = rw (to_z-of_z w64 _ metal-fits) at c.total-3.ensures.wrote in
    record {
      wrote = wrote_as (totals-line h.terminal h.refined h.metal)
          (wrote_then (wrote_then (wrote_then terminal refined) metal) c.byte.ensures);
      within = omega (
        arith,
        c.total.ensures.within,
        c.total-2.ensures.within,
        c.total-3.ensures.within,
        c.byte.ensures.put.moves,
      );
    }
