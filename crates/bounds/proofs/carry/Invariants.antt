-- Each bound that is written is from an edge with the same key. The measure is how many edges before and of now are left.
use Rattle.std.proofs.Common.{◌+◌, ◌-◌, ◌≤◌}
use Rattle.bounds.proofs.CarryLaws.{Carrying}
use Rattle.bounds.proofs.carry.Given as goal

abbrev pub invariant-loop-j : goal.invariant-loop-j
invariant-loop-j l = ((l.j ≤ l.f) × (l.k ≤ l.e)) × Carrying l.before l.f l.at l.keys l.e l.most l.bound l.next

abbrev pub decreases-loop-j : goal.decreases-loop-j
decreases-loop-j l = (l.f - l.j) + (l.e - l.k)
