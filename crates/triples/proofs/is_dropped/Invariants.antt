-- The points that are left decide.
use Rattle.std.proofs.Common.{◌≡◌, ◌-◌}
use Rattle.lists.specs.Turns.{seek}
use Rattle.triples.specs.Triple.{taken}
use Rattle.triples.proofs.is_dropped.Given as goal

abbrev pub invariant-loop-i : goal.invariant-loop-i
invariant-loop-i l = seek (taken l.pts l.a l.b l.u l.s) l.i (l.n - l.i) ≡ seek (taken l.pts l.a l.b l.u l.s) 0 l.n
