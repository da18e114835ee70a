-- The row is that of s, and the bounds before k count s.
use Rattle.plane.specs.Flat.{macros_of}
use Rattle.longest.specs.Longest.{longest}
use Rattle.longest.specs.Hung.{ties, top_of, Begun, Row}
use Rattle.candidates.proofs.BoundLaws.{Raising}
use Rattle.candidates.proofs.candidate.raise.Given as goal

abbrev pub invariant-loop-k : goal.invariant-loop-k
invariant-loop-k l =
    let top = longest l.keys l.el l.e l.n in
    (Begun (ties l.onto l.link l.turn) l.tops × Row l.el (ties l.onto l.link l.turn) (top_of top l.s) l.tops)
    × Raising l.w l.pts l.n (macros_of l.macros) l.keys l.e l.el top l.s l.k l.bound
