-- The edge at hand hangs a point or none.
use Rattle.std.proofs.Common.{refl, arith}
use Rattle.longest.proofs.HungLaws.{going_next, going_end}
use Rattle.longest.proofs.pass.Goals as goal

pub loop-k-preserved : goal.loop-k-preserved
loop-k-preserved c =
    let i = c.loop-k.invariant in
    let m = c.attach-d.ensures in (
      (omega arith, omega arith),
      λ el n r few w z.
          let g = i.1 el n r few w z in
          going_next _ _ _ _ _ _ _ _ _ _ _ g (omega arith) i.0.0 m.lower_bound.0
          (m.by_index _ el _ n _ few c.requires.0.0 w (omega arith) refl refl g.hung),
    )

pub returns-clause-by_index : goal.returns-clause-by_index
returns-clause-by_index c el n r few w h = going_end _ _ _ _ _ _ _ _ _ (c.loop-k.invariant.1 el n r few w h) (omega arith)
