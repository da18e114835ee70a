-- The edges that are left decide, and what hangs agrees with what is reached; as long as no edge has hung a point nothing has changed.
use Rattle.std.proofs.Common.{List, ℕ, ◌+◌, ◌≤◌}
use Rattle.tree.specs.Table.{tree_bound, Within}
use Rattle.longest.specs.Longest.{Reach}
use Rattle.longest.specs.Hung.{ties, Hung}
use Rattle.longest.proofs.HungLaws.{Going}
use Rattle.longest.proofs.pass.Given as goal

abbrev pub invariant-loop-k : goal.invariant-loop-k
invariant-loop-k l = ((l.c ≤ l.d) × (l.d ≤ l.c + l.k))
    × ((el : List ℕ) (n : ℕ) (r : Reach) → n ≤ tree_bound → Within n l.keys
    → Hung l.keys el l.e n l.c (ties l.fn.onto l.fn.link l.fn.turn) r → Going l.keys el l.e n l.c l.d l.k (ties l.onto l.link l.turn) r)
