use Rattle.labels.proofs.CodeLaws.{join-level, join-not}
use Rattle.labels.proofs.OwnLaws.{own-joined}
use Rattle.labels.proofs.join.Goals as goal

pub returns-then-is_level-clause-lab_after : goal.returns-then-is_level-clause-lab_after
returns-then-is_level-clause-lab_after c =
    join-level _ _ _ _ _ _ _ c.is_level.ensures c.if-is_level.true _ _ _ c.first_end.ensures.0 c.second_end.ensures.0
    c.unite.ensures

pub returns-then-is_level-clause-own_2 : goal.returns-then-is_level-clause-own_2
returns-then-is_level-clause-own_2 c = rw c.max.ensures (own-joined _ _ _ _ _ _ c.unite.ensures c.requires.own)

pub returns-else-is_level-clause-lab_after : goal.returns-else-is_level-clause-lab_after
returns-else-is_level-clause-lab_after c = join-not _ _ _ _ _ _ _ c.is_level.ensures c.if-is_level.false
