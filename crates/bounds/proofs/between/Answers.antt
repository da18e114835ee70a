-- Where one hangs on the other, the edge between them is the only one.
use Rattle.bounds.proofs.CalmLaws.{hung-cost, held-cost}
use Rattle.bounds.proofs.between.Goals as goal

pub returns-then-hangs : goal.returns-then-hangs
returns-then-hangs c t told =
    let h = c.hangs.ensures c.if-hangs.true in
    hung-cost _ _ c.requires.tied.0 t told _ _ _ c.requires.nonzero.1 h.0 h.1 c.link_cost.ensures

pub returns-then-hangs-2 : goal.returns-then-hangs-2
returns-then-hangs-2 c t told =
    let h = c.hangs-else-hangs.ensures c.if-hangs-2.true in
    held-cost _ _ c.requires.tied.0 t told _ _ _ c.requires.nonzero.0 h.0 h.1 c.link_cost-then-hangs-2.ensures
