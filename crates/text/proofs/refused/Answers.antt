-- `text::refused` meets its contract: the page of the whole buffer, written.
-- Assumes nothing.
use Rattle.std.proofs.Common.{refl, sym, arith, w32, rules}
use mir.ValLaws.{to_z-of_z}
use Rattle.text.proofs.PutLaws.{page-filled}
use Rattle.text.proofs.refused.Goals as goal

pub returns : goal.returns
returns c =
    let w = rw (to_z-of_z w32 _ c.ranges.n) at c.refused.ensures.wrote in
    let same = sym w.same in
    page-filled w refl (omega (arith, w.put.moves, c.refused.ensures.within)) (search rules)
