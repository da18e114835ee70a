use Rattle.std.proofs.Common.{◌≡◌, ◌≤◌, length, get_or}
use Rattle.shifted.specs.Shift.{shifted_edge}
use Rattle.shifted.proofs.ShiftedLaws.{Putting}
use Rattle.shifted.proofs.shift_edges.Given as goal

abbrev pub invariant-loop-k : goal.invariant-loop-k
invariant-loop-k l =
    (l.count ≤ l.k) × ((length l.out ≡ length l.initial.out)
    × Putting (λ i. shifted_edge l.m l.pts l.lab (get_or l.keys i 0)) l.e l.initial.out l.out l.count l.k)
