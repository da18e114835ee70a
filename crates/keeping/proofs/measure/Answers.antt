use Rattle.std.proofs.Common.{◌≡◌, ◌≤◌, ◌<◌, length, get_or, arith}
use Rattle.forest.specs.Bounds.{path_bound}
use Rattle.forest.proofs.EdgeLaws.{all_left, entries_next, entries-end}
use Rattle.keeping.proofs.KeptLaws.{measure-none, measure-more, measure-end}
use Rattle.keeping.proofs.measure.Goals as goal

pub loop-i-init : goal.loop-i-init
loop-i-init c = rw (all_left c.args.n) (measure-none _ _ _ _)

pub loop-i-preserved : goal.loop-i-preserved
loop-i-preserved c =
    let k = get_or c.args.kept.now c.loop-i.i 0 in
    let light : get_or c.args.w.now k 0 ≤ path_bound = omega (arith, c.requires.below.below k) in
    let room : c.loop-i.i < length c.args.long.now = omega (arith, c.requires.n_le_edge_bound.1.1, c.requires.n_le_edge_bound.0) in
    measure-more _ _ _ _ _ _ _ _ c.loop-i.invariant _ _ (entries_next _ _ _ c.loop-i-test.true) light room

pub returns : goal.returns
returns c =
    let done : c.loop-i.i ≡ c.args.n = omega arith in
    let all = measure-end _ _ _ _ _ _ _ _ c.loop-i.invariant _ done (entries-end _ _ _ c.loop-i-test.false) in
    record { listed = all.0; value = all.1 }
