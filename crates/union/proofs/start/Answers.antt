-- What is marked and what is written are the definitions' lists, stage by stage.
use Rattle.std.proofs.Common.{length, ap, arith}
use Rattle.forest.specs.Bounds.{point_bound}
use Rattle.forest.proofs.EdgeLaws.{below-replicate}
use Rattle.union.proofs.StartLaws.{edges_are, started}
use Rattle.union.proofs.start.Goals as goal

pub put_points-points-requires-clause-below : goal.put_points-points-requires-clause-below
put_points-points-requires-clause-below c = below-replicate point_bound point_bound 0 (omega arith)

pub put_keys-edges-requires-clause-e_len_bound : goal.put_keys-edges-requires-clause-e_len_bound
put_keys-edges-requires-clause-e_len_bound c =
    let q = c.requires.startable in
    let few =
    ap length (edges_are _ _ _ _ _ _ q.fits.count q.vertices _ _ _ c.mark_paths.ensures c.mark_pins.ensures c.mark_ends.ensures)
    in
    (omega (arith, few, q.room), ap length c.requires.pts_value.1)

pub returns : goal.returns
returns c =
    let q = c.requires.startable in
    let points = c.put_points-points.ensures in
    let keys = c.put_keys-edges.ensures in
    started _ _ _ _ _ _ q.fits.count q.vertices _ _ _ c.mark_paths.ensures c.mark_pins.ensures c.mark_ends.ensures q.one_in q.two_in _
    points.ranking.0 _ _ _ _ _ _ _ c.requires.pts_value.0 c.requires.pts_value.1 points.value points.pts_after keys.value keys.keys_after
