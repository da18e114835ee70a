-- The ends of the first k edges are joined so.
use Rattle.std.proofs.Common.{List, ℕ}
use Rattle.longest.specs.Hung.{ties, Told}
use Rattle.bounds.specs.Carried.{Calm}
use Rattle.bounds.proofs.is_calm.Given as goal

abbrev pub invariant-loop-k : goal.invariant-loop-k
invariant-loop-k l = (t : List ℕ) → Told l.el (ties l.onto l.link l.turn) t → Calm l.w l.pts l.el t l.keys l.k l.at
