use Rattle.std.proofs.Common.{◌≤◌, ◌<◌, length, sym, arith}
use Rattle.lent.specs.Entries.{entries}
use Rattle.graph.specs.Numbers.{edge_from}
use Rattle.forest.specs.Bounds.{edge_bound}
use Rattle.terminal.proofs.EdgeTables.{number-none, number_more, number-end, read-edge, edge-entries}
use Rattle.terminal.proofs.number_edges.Goals as goal

pub loop-k-init : goal.loop-k-init
loop-k-init c =
    let q = c.requires.e_le_edge_bound.1 in
    number-none _ _ _ _ _ _ q.0 q.1.0 q.1.1

pub loop-k-preserved : goal.loop-k-preserved
loop-k-preserved c =
    let a = c.args in
    let h = c.loop-k-test.true in
    let n = edge-entries a.edges.now a.e in
    let one = c.place_at-a in
    let two = c.place_at-b in
    let read = read-edge a.edges.now a.e c.loop-k.k h one.result two.result one.ensures two.ensures in
    let more : c.loop-k.k < length (entries edge_from 4 a.edges.now a.e) = omega (arith, n, h) in
    let few : length (entries edge_from 4 a.edges.now a.e) ≤ edge_bound = omega (arith, n, c.requires.e_le_edge_bound) in
    number_more _ _ _ _ _ _ _ c.loop-k.invariant one.result two.result _ _ _ more few read c.number_of.ensures
    c.number_of-in-loop-k.ensures c.cost.ensures.0

pub returns : goal.returns
returns c =
    let a = c.args in
    let n = edge-entries a.edges.now a.e in
    let all : length (entries edge_from 4 a.edges.now a.e) ≤ c.loop-k.k = omega (arith, n, c.loop-k-test.false) in
    number-end _ _ _ _ _ _ _ c.loop-k.invariant a.e all (sym n)
