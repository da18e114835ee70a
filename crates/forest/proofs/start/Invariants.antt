-- The sources that are left, from the present labels, give what all give.
use Rattle.std.proofs.Common.{◌≡◌, ◌-◌}
use Rattle.forest.specs.Edges.{entries}
use Rattle.forest.specs.Labels.{labels, starts}
use Rattle.forest.proofs.start.Given as goal

abbrev pub invariant-loop-s : goal.invariant-loop-s
invariant-loop-s l =
    starts (entries l.sources l.s-index (l.m - l.s-index)) (labels l.far l.root) ≡ starts (entries l.sources 0 l.m) (labels l.fn.far l.fn.root)
