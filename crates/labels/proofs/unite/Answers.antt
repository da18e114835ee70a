use Rattle.std.proofs.Common.{sym, ◌∙◌}
use Rattle.labels.proofs.CodeLaws.{unite-less, unite-more}
use Rattle.labels.proofs.OwnLaws.{lone-united}
use Rattle.labels.proofs.unite.Goals as goal

pub returns-then-is_lone : goal.returns-then-is_lone
returns-then-is_lone c =
    let a = c.args in
    lone-united a.n a.p a.b a.top a.lab.now c.requires.1 (sym c.is_lone.ensures ∙ c.if-is_lone.true)

pub returns-then-p-q : goal.returns-then-p-q
returns-then-p-q c = unite-less _ _ _ _ _ c.if-p-q.true c.merge.ensures

pub returns-else-p-q : goal.returns-else-p-q
returns-else-p-q c = unite-more _ _ _ _ _ c.if-p-q.false c.merge-else-p-q.ensures
