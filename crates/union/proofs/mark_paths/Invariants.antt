-- Marking the paths that are left gives what marking all gives.
use Rattle.std.proofs.Common.{◌≡◌, ◌-◌}
use Rattle.lent.specs.Entries.{flat}
use Rattle.bridges.specs.Bridges.{path}
use Rattle.forest.specs.Edges.{graph, entries}
use Rattle.forest.specs.Parents.{parents}
use Rattle.union.specs.Union.{kept_edges}
use Rattle.union.specs.Marks.{marked}
use Rattle.union.proofs.mark_paths.Given as goal

abbrev pub invariant-loop-k : goal.invariant-loop-k
invariant-loop-k l =
    let g = graph l.ea l.eb l.el l.e in
    let p = parents l.up l.via in
    marked (flat (path g l.far p) (entries l.kept l.k-index (l.count - l.k-index))) l.on
    ≡ marked (kept_edges g l.far p (entries l.kept 0 l.count)) l.fn.on
