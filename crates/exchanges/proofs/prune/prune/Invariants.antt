-- What pruning leaves of the edges is the same. The measure is how many edges are left.
use Rattle.std.proofs.Common.{◌≡◌, ◌≤◌}
use Rattle.tree.specs.Table.{Small, pair_bound}
use Rattle.exchanges.specs.Prune.{prune}
use Rattle.exchanges.proofs.prune.prune.Given as goal

abbrev pub invariant-loop-i : goal.invariant-loop-i
invariant-loop-i l = (l.f ≤ l.e) × (Small pair_bound l.keys × (prune l.pin l.keys l.f ≡ prune l.pin l.fn.keys l.e))

abbrev pub decreases-loop-i : goal.decreases-loop-i
decreases-loop-i l = l.f
