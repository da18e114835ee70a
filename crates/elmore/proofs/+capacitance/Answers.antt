-- `elmore::capacitance` meets its contract: it recurses on the steps left below a point. An entry of the memo with the visit's number is its
-- capacitance; else the children are added one by one, and the memo has one entry more.
-- Assumes nothing.
use Rattle.std.proofs.Common.{refl, arith}
use Rattle.elmore.proofs.TableLaws.{gather_none, gather-start, gather-hit, gather-miss, gather-end}
use Rattle.elmore.proofs.MemoLaws.{memo-more}
use Rattle.elmore.proofs.+capacitance.Goals as goal
use Rattle.elmore.proofs.+capacitance.Goals.{in-Some, in_default}

-- nothing hangs from the point
pub returns-then-v-eq0-clause-value : goal.returns-then-v-eq0-clause-value
returns-then-v-eq0-clause-value t c = gather_none _ _ _ _ _ _ _ _ _ c.if-v-eq0.true c.load-sum.ensures

pub loop-k-init : goal.loop-k-init
loop-k-init t c = (gather-start _ _ _ _ _ _ _ _ _ c.if-v-eq0.false c.load-sum.ensures, c.requires.memo)

pub loop-k-preserved : goal.loop-k-preserved
loop-k-preserved t c =
    elim c.match-child_at.branch [
      | in-Some w ↦
          rw (w.sum-is, w.held-is, w.whose-is) (
            gather-hit _ _ _ _ _ _ _ _ _ _ _ _ _ _ c.loop-k.invariant.0 c.loop-k-test.true w.in-Some.ensures.0 w.in-Some.ensures.1
                w.capacitance-child.ensures.value w.add_child-sum.ensures,
            w.capacitance-child.ensures.memo_2,
          )
      | in_default w ↦
          rw (w.sum-is, w.held-is, w.whose-is) (
            gather-miss _ _ _ _ _ _ _ _ _ _ _ _ c.loop-k.invariant.0 c.loop-k-test.true refl w.in_default.ensures,
            c.loop-k.invariant.1,
          )
    ]

-- all children are added, and the memo has one entry more
pub returns : goal.returns
returns t c =
    let i = c.requires.e_le_tree_bound.1 in
    let worked = gather-end _ _ _ _ _ _ _ _ _ _ _ c.loop-k.invariant.0 (omega arith) in
    record {
      value = worked;
      memo_2 = memo-more _ _ _ _ _ c.loop-k.invariant.1 _ _ _ i.steps_low i.point-low _ _ c.visit_number-number.ensures worked;
    }
