use Rattle.forest.specs.Labels.{relax_edge, moves}
use Rattle.forest.proofs.EdgeLaws.{from_next, from-end}
use Rattle.forest.proofs.LabelLaws.{pass-more, pass-end}
use Rattle.forest.proofs.relax_all.Goals as goal

pub loop-k-preserved : goal.loop-k-preserved
unfolding relax_edge moves
loop-k-preserved c =
    let call = c.relax_edge-moved.ensures in
    pass-more _ _ _ _ _ _ c.loop-k.invariant _ _ _ _ (from_next _ _ c.loop-k-test.true) (call.value, call.root_after)

pub returns-clause-value : goal.returns-clause-value
returns-clause-value c = (pass-end _ _ _ _ _ _ c.loop-k.invariant (from-end _ _ c.loop-k-test.false)).0

pub returns-clause-root_after : goal.returns-clause-root_after
returns-clause-root_after c = (pass-end _ _ _ _ _ _ c.loop-k.invariant (from-end _ _ c.loop-k-test.false)).1
