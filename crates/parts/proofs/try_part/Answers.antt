use Rattle.std.proofs.Common.{sym, ◌∙◌}
use Rattle.parts.proofs.WorkLaws.{tried-none, trying-more}
use Rattle.parts.proofs.try_part.Goals as goal

pub loop-v-preserved : goal.loop-v-preserved
loop-v-preserved c =
    let part = sym c.is_part.ensures ∙ c.if-is_part.true in
    trying-more _ _ _ _ _ _ _ _ _ c.loop-v-test.true part c.sum_at.ensures c.min.ensures c.loop-v.invariant

pub returns-else-is_part : goal.returns-else-is_part
returns-else-is_part c = tried-none _ _ _ _ _ c.requires.le_p.1 (sym c.is_part.ensures ∙ c.if-is_part.false)
