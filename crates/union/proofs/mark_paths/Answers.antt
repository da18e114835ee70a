use Rattle.std.proofs.Common.{◌<◌, refl, arith, length-take}
use Rattle.std.proofs.lemmas.List.{get_or-take}
use Rattle.bridges.specs.Bridges.{path}
use Rattle.forest.proofs.EdgeLaws.{all_left}
use Rattle.union.specs.Union.{kept_edges}
use Rattle.union.proofs.MarkLaws.{piece-marked, pieces-marked}
use Rattle.union.proofs.mark_paths.Goals as goal

pub loop-k-init : goal.loop-k-init
unfolding kept_edges
loop-k-init c = rw (all_left c.args.count) refl

pub loop-k-preserved : goal.loop-k-preserved
unfolding path
loop-k-preserved c =
    let h : c.loop-k.k-index < c.args.count = omega (arith, length-take c.args.count c.args.kept.now) in
    let call = rw (get_or-take c.args.count c.args.kept.now c.loop-k.k-index 0 h) at c.mark_path.ensures in
    piece-marked _ _ _ _ _ _ c.loop-k.invariant _ h call

pub returns : goal.returns
returns c = pieces-marked _ _ _ _ _ _ c.loop-k.invariant (omega (arith, length-take c.args.count c.args.kept.now))
