use Rattle.forest.proofs.LabelLaws.{low-offered}
use Rattle.forest.proofs.relax_edge.Goals as goal

pub offer-back-requires-clause-low : goal.offer-back-requires-clause-low
offer-back-requires-clause-low c = (low-offered _ _ _ _ _ c.offer-there.ensures.root_after c.requires.low.0, c.requires.low.1)
