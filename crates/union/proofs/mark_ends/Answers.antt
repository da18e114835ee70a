use Rattle.std.proofs.Common.{refl, lt-ltb, le-ltb}
use Rattle.forest.proofs.EdgeLaws.{all_left}
use Rattle.union.specs.Marks.{is_marked, marks}
use Rattle.union.proofs.MarkLaws.{ends-hit, ends-miss, ends-end}
use Rattle.union.proofs.mark_ends.Goals as goal
use Rattle.union.proofs.mark_ends.Goals.{then-on-k-gt0, else-on-k-gt0}

pub loop-k-init : goal.loop-k-init
unfolding marks
loop-k-init c = rw (all_left c.args.e) refl

pub loop-k-preserved : goal.loop-k-preserved
loop-k-preserved c =
    let a = c.args in
    let h = c.loop-k-test.true in
    let i = c.loop-k.invariant in
    elim c.if-on-k-gt0.branch [
      | then-on-k-gt0 w ↦
          rw w.at-is (ends-hit a.ea.now a.eb.now (is_marked a.on.now) _ _ _ _ i h (lt-ltb 0 _ w.if-on-k-gt0.true))
      | else-on-k-gt0 w ↦
          rw w.at-is (ends-miss a.ea.now a.eb.now (is_marked a.on.now) _ _ _ _ i h (le-ltb 0 _ w.if-on-k-gt0.false))
    ]

pub returns : goal.returns
returns c =
    let a = c.args in
    ends-end a.ea.now a.eb.now (is_marked a.on.now) _ _ _ _ c.loop-k.invariant c.loop-k-test.false
