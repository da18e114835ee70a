-- The lengths so far are written and added, and those that are left make up the rest.
use Rattle.std.proofs.Common.{◌-◌, get_or}
use Rattle.forest.specs.Bounds.{path_bound}
use Rattle.forest.specs.Edges.{entries}
use Rattle.keeping.proofs.KeptLaws.{Measuring}
use Rattle.keeping.proofs.measure.Given as goal

abbrev pub invariant-loop-i : goal.invariant-loop-i
invariant-loop-i l =
    Measuring (λ k. get_or l.w k 0) path_bound (entries l.kept 0 l.n) (entries l.kept l.i (l.n - l.i)) l.fn.long l.long l.i l.sum
