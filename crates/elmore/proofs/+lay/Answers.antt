-- `elmore::lay` meets its contract: it recurses on the steps left below a point, and stores the delays child by child.
-- Assumes nothing.
use Rattle.std.proofs.Common.{refl, arith}
use Rattle.elmore.proofs.TableLaws.{lay-none, lay-start, lay-hit, lay-miss, lay-end}
use Rattle.elmore.proofs.+lay.Goals as goal
use Rattle.elmore.proofs.+lay.Goals.{in-Some, in_default}

-- nothing hangs from the point
pub returns-then-v-eq0-clause-table_after : goal.returns-then-v-eq0-clause-table_after
returns-then-v-eq0-clause-table_after t c = lay-none _ _ _ _ _ _ _ _ _ _ c.if-v-eq0.true

pub loop-k-init : goal.loop-k-init
loop-k-init t c = (lay-start _ _ _ _ _ _ _ _ _ _ c.if-v-eq0.false, c.requires.memo)

pub loop-k-preserved : goal.loop-k-preserved
loop-k-preserved t c =
    elim c.match-child_at.branch [
      | in-Some w ↦
          rw (w.table-is, w.held-is, w.whose-is) (
            lay-hit _ _ _ _ _ _ _ _ _ _ _ _ _ _ _ _ c.loop-k.invariant.0 c.loop-k-test.true w.in-Some.ensures.0 w.in-Some.ensures.1
                w.capacitance-child.ensures.value w.delay_below-f.ensures w.lay.ensures.table_after,
            w.lay.ensures.memo_2,
          )
      | in_default w ↦
          rw (w.table-is, w.held-is, w.whose-is) (
            lay-miss _ _ _ _ _ _ _ _ _ _ _ _ _ c.loop-k.invariant.0 c.loop-k-test.true refl w.in_default.ensures,
            c.loop-k.invariant.1,
          )
    ]

pub returns-clause-table_after : goal.returns-clause-table_after
returns-clause-table_after t c = lay-end _ _ _ _ _ _ _ _ _ _ _ _ c.loop-k.invariant.0 (omega arith)
