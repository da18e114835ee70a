use Rattle.std.proofs.Common.{◌<◌, ◌∙◌, sym, ap, arith}
use Rattle.beside.specs.Beside.{is_point}
use Rattle.beside.proofs.BesideLaws.{gather_none, gather-pass, gather-more, gather-end, gather-low}
use Rattle.beside.proofs.sources.Goals as goal
use Rattle.beside.proofs.sources.Goals.{then-is_point, else-is_point}

pub loop-i-init : goal.loop-i-init
loop-i-init c = gather_none _ _ _ _ _

pub loop-i-preserved : goal.loop-i-preserved
loop-i-preserved c =
    let low : c.loop-i.i < c.args.v = omega arith in
    let kept = c.loop-i.invariant in
    let is = ap (is_point c.args.pts.now c.args.n) (sym c.place_at.ensures) ∙ sym c.is_point.ensures in
    elim c.if-is_point.branch [
      | then-is_point w ↦
          rw (w.source-is, w.c-is)
          (gather-more _ _ _ _ _ _ _ _ kept low (is ∙ w.if-is_point.true) (omega (arith, kept.few, c.requires.n_le_tree_bound.1)))
      | else-is_point w ↦ rw (w.source-is, w.c-is) (gather-pass _ _ _ _ _ _ _ _ kept low (is ∙ w.if-is_point.false))
    ]

pub returns-clause-result_after : goal.returns-clause-result_after
returns-clause-result_after c = gather-end _ _ _ _ _ _ _ _ c.loop-i.invariant (omega arith)

pub returns-clause-upper_bound : goal.returns-clause-upper_bound
returns-clause-upper_bound c =
    let g = c.loop-i.invariant in
    (omega (arith, g.few, g.inside), gather-low _ _ _ _ _ _ _ _ g (omega arith) c.requires.n_le_tree_bound.1)
