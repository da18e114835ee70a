use Rattle.std.proofs.Common.{ℕ, ap, set, arith}
use Rattle.turned.proofs.StepLaws.{up_start, up_next, up-end}
use Rattle.labels.proofs.merge.Goals as goal

pub loop-i-init : goal.loop-i-init
loop-i-init c = up_start _ _

pub loop-i-preserved : goal.loop-i-preserved
loop-i-preserved c = up_next _ _ _ _ _ c.loop-i.invariant (ap (λ (x : ℕ). set c.loop-i.lab c.loop-i.i x) c.changed.ensures)

pub returns : goal.returns
returns c = up-end _ _ _ _ _ c.loop-i.invariant (omega arith) (omega arith)
