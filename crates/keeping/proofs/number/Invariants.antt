-- Filling in the numbers that are left gives what filling in all gives.
use Rattle.std.proofs.Common.{◌≡◌, ◌-◌}
use Rattle.forest.specs.Edges.{filled}
use Rattle.keeping.proofs.number.Given as goal

abbrev pub invariant-loop-k : goal.invariant-loop-k
invariant-loop-k l = filled (λ j. j) l.k (l.n - l.k) l.group ≡ filled (λ j. j) 0 l.n l.fn.group
