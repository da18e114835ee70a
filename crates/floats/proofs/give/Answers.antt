use Rattle.std.proofs.Common.{◌∙◌, ◌<◌, sym, arith}
use Rattle.floats.proofs.MarkLaws.{filled_none, filled-room, filled-some, filled-mark, filled-miss, filled-end}
use Rattle.floats.proofs.give.Goals as goal
use Rattle.floats.proofs.give.Goals.{then-pin-i-eq1+in-Some, then-pin-i-eq1+in_default, else-pin-i-eq1}

pub loop-i-init : goal.loop-i-init
loop-i-init c = filled_none _ _ _ _

pub bounds-lent-k : goal.bounds-lent-k
bounds-lent-k c =
    omega (arith, filled-room _ _ _ _ _ _ _ c.loop-i.invariant (omega arith) c.if-pin-i-eq1.true c.requires.1)

pub loop-i-preserved : goal.loop-i-preserved
loop-i-preserved c =
    let low : c.loop-i.i < c.args.n = omega arith in
    let kept = c.loop-i.invariant in
    elim c.if-pin-i-eq1.branch [
      | then-pin-i-eq1+in-Some w ↦
          rw (w.lent-is, w.k-is) (filled-some _ _ _ _ _ _ _ kept _ low w.if-pin-i-eq1.true c.requires.1 (sym w.in-Some.is ∙ w.marked.ensures))
      | then-pin-i-eq1+in_default w ↦
          rw (w.lent-is, w.k-is)
          (filled-mark _ _ _ _ _ _ _ kept low w.if-pin-i-eq1.true c.requires.1 (sym w.in_default.is ∙ w.marked.ensures))
      | else-pin-i-eq1 w ↦ rw (w.lent-is, w.k-is) (filled-miss _ _ _ _ _ _ _ kept low w.if-pin-i-eq1.false)
    ]

pub returns : goal.returns
returns c = filled-end _ _ _ _ _ _ _ c.loop-i.invariant (omega arith)
