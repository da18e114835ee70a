-- The points that are left decide, and the row is that of the edge; a point too far from the box of the edge changes nothing.
use Rattle.std.proofs.Common.{◌≡◌, ◌-◌, ◌≤◌}
use Rattle.plane.specs.Flat.{macros_of}
use Rattle.lists.specs.Turns.{turns}
use Rattle.longest.specs.Longest.{cut_of, longest}
use Rattle.longest.specs.Hung.{ties, Begun, Row}
use Rattle.candidates.specs.Candidate.{offer}
use Rattle.candidates.proofs.candidate.offers.Given as goal

abbrev pub invariant-loop-u : goal.invariant-loop-u
invariant-loop-u l =
    let top = longest l.keys l.el l.e l.n in
    ((l.u ≤ l.n) × (l.last ≤ l.n))
    × ((Begun (ties l.onto l.link l.turn) l.row × Row l.el (ties l.onto l.link l.turn) (cut_of l.el top l.a l.b) l.row)
    × ((turns (offer l.w l.pts l.n (macros_of l.macros) l.el top l.a l.b l.k) l.u (l.n - l.u) l.found
    ≡ turns (offer l.w l.pts l.n (macros_of l.macros) l.el top l.a l.b l.k) 0 l.n l.fn.c) × (l.fn.c.gain ≤ l.found.gain)))
