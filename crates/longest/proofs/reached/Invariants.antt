-- The passes that are left decide, and what hangs agrees with what is reached; a pass hangs as many points as there are edges at most.
use Rattle.std.proofs.Common.{List, ℕ, ◌+◌, ◌*◌, ◌≤◌}
use Rattle.tree.specs.Table.{tree_bound, Within}
use Rattle.longest.specs.Longest.{Reach}
use Rattle.longest.specs.Hung.{ties, Hung}
use Rattle.longest.proofs.HungLaws.{Passing}
use Rattle.longest.proofs.reached.Given as goal

abbrev pub invariant-loop : goal.invariant-loop
invariant-loop l = (l.c ≤ 1 + l.counter * tree_bound)
    × ((el : List ℕ) (n : ℕ) (r : Reach) → n ≤ tree_bound → Within n l.keys
    → Hung l.keys el l.e n 1 (ties l.fn.onto l.fn.link l.fn.turn) r → Passing l.keys el l.e n l.c l.counter (ties l.onto l.link l.turn) r)
