use Rattle.std.proofs.Common.{refl}
use Rattle.refiner.proofs.GraftLaws.{leaf-is, leaf-growing}
use Rattle.refiner.proofs.graft.leaf.Goals as goal

pub returns-clause-result_after : goal.returns-clause-result_after
returns-clause-result_after c =
    leaf-is _ _ _ _ _ _ _ _ _ _ _ _ _ c.rank-p.ensures.0 c.open.ensures c.renumber.ensures c.bump.ensures.0 c.pair_key-key.ensures
    c.key_rank-i.ensures c.insert.ensures c.bump-2.ensures.0 c.bump-3.ensures.0

pub returns-clause-points_value : goal.returns-clause-points_value
returns-clause-points_value c = (
  (refl, refl),
  leaf-growing _ _ _ _ _ _ _ _ _ _ _ _ _ c.rank-p.ensures.0 c.open.ensures c.renumber.ensures c.bump.ensures.0 c.pair_key-key.ensures
      c.key_rank-i.ensures c.insert.ensures c.bump-2.ensures.0 c.bump-3.ensures.0 c.requires.0.0 c.requires.1,
)
