-- `text::Page::place` meets its contract: two numbers, each with a space behind it.
-- Assumes nothing.
use Rattle.std.proofs.Common.{arith, w32, SFits, rules}
use mir.ValLaws.{to_z-of_z}
use Rattle.text.proofs.PutLaws.{wrote_then}
use Rattle.text.proofs.Page.place.Goals as goal

pub returns : goal.returns
returns c =
    let p = c.args.p in
    let x-fits : SFits w32 p.x = search rules in
    let y-fits : SFits w32 p.y = search rules in
    record {
      wrote = wrote_then
          (rw (to_z-of_z w32 _ x-fits) at c.coordinate.ensures.wrote)
          (rw (to_z-of_z w32 _ y-fits) at c.coordinate-2.ensures.wrote);
      within = omega (arith, c.coordinate.ensures.within, c.coordinate-2.ensures.within);
    }
