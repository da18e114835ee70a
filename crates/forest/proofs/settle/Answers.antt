-- A pass that changes nothing ends it, since it and all after it leave the labels as they are.
use Rattle.std.proofs.Common.{sym, ◌∙◌}
use Rattle.forest.proofs.EdgeLaws.{one_less, none_left}
use Rattle.forest.proofs.LabelLaws.{settle-more, settle-stop, settle-end}
use Rattle.forest.proofs.settle.Goals as goal

pub returns-then-not-relax_all : goal.returns-then-not-relax_all
returns-then-not-relax_all c =
    let call = c.relax_all.ensures in
    settle-stop _ _ _ _ _ _ c.loop.invariant _ _ (one_less _ _ c.loop-test.true) (sym call.value ∙ c.if-not-relax_all.true) call.root_after

pub loop-preserved : goal.loop-preserved
loop-preserved c =
    let call = c.relax_all.ensures in
    settle-more _ _ _ _ _ _ c.loop.invariant _ _ (one_less _ _ c.loop-test.true) (sym call.value ∙ c.if-not-relax_all.false) call.root_after

pub returns : goal.returns
returns c = settle-end _ _ _ _ _ _ c.loop.invariant (none_left _ _ c.loop-test.false)
