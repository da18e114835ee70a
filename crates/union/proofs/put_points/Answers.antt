use Rattle.std.proofs.Common.{ap, ◌∙◌, arith}
use Rattle.tree.specs.Table.{set_point}
use Rattle.union.proofs.MarkLaws.{marks-few, place_none, place-pass, place-more}
use Rattle.union.proofs.put_points.Goals as goal
use Rattle.union.proofs.put_points.Goals.{then-at-v-gt0, else-at-v-gt0}

pub loop-v-init : goal.loop-v-init
loop-v-init c = place_none _ _ _ _ c.requires.n_le_point_bound.1.1 c.requires.below

pub put_point-requires : goal.put_point-requires
put_point-requires c = omega (arith, marks-few c.args.at.now c.loop-v.v, c.loop-v.invariant.count)

pub overflow_add-c : goal.overflow_add-c
overflow_add-c c = omega (arith, marks-few c.args.at.now c.loop-v.v, c.loop-v.invariant.count)

pub loop-v-preserved : goal.loop-v-preserved
loop-v-preserved c =
    let s = c.loop-v.invariant in
    elim c.if-at-v-gt0.branch [
      | then-at-v-gt0 w ↦
          rw (w.rank-is, w.pts-is, w.c-is)
          (place-more _ _ _ _ _ _ _ s _ w.if-at-v-gt0.true (omega arith)
          (omega (arith, marks-few c.args.at.now c.loop-v.v, s.count, c.requires.n_le_point_bound.1.0))
          (w.put_point.ensures ∙ ap (set_point c.loop-v.pts c.loop-v.c) w.place_at.ensures))
      | else-at-v-gt0 w ↦ rw (w.rank-is, w.pts-is, w.c-is) (place-pass _ _ _ _ _ _ _ s w.if-at-v-gt0.false)
    ]
