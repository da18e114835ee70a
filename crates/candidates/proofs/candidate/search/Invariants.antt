-- The edges that are left decide, and the bounds hold.
use Rattle.std.proofs.Common.{◌≡◌, ◌-◌}
use Rattle.plane.specs.Flat.{macros_of}
use Rattle.lists.specs.Turns.{turns}
use Rattle.longest.specs.Longest.{longest}
use Rattle.candidates.specs.Candidate.{best, offers}
use Rattle.candidates.specs.Bounded.{Bounded}
use Rattle.candidates.proofs.candidate.search.Given as goal

abbrev pub invariant-loop-k : goal.invariant-loop-k
invariant-loop-k l =
    let top = longest l.keys l.el l.e l.n in
    Bounded l.w l.pts l.n (macros_of l.macros) l.keys l.e l.el top l.n l.bound
    × (turns (offers l.w l.pts l.n (macros_of l.macros) l.keys l.el top) l.k (l.e - l.k) l.found
    ≡ turns (offers l.w l.pts l.n (macros_of l.macros) l.keys l.el top) 0 l.e (best 0 0 0 0))
