-- `text::tree` meets its contract: the page of the whole buffer, written.
-- Assumes nothing.
use Rattle.std.proofs.Common.{refl, sym, arith, rules}
use Rattle.text.proofs.PutLaws.{page-filled}
use Rattle.text.proofs.tree.Goals as goal

pub returns : goal.returns
returns c =
    let w = c.tree.ensures.wrote in
    let same = sym w.same in
    page-filled w refl (omega (arith, w.put.moves, c.tree.ensures.within)) (search rules)
