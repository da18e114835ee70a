-- The vertices that are left decide; one on the tree, and one too far from it or from the box of the edge, changes nothing; the row is that
-- of the edge.
use Rattle.std.proofs.Common.{◌≡◌, ◌-◌, ◌≤◌}
use Rattle.plane.specs.Flat.{macros_of}
use Rattle.lists.specs.Turns.{turns}
use Rattle.longest.specs.Longest.{cut_of, longest}
use Rattle.longest.specs.Hung.{ties, Begun, Row}
use Rattle.beside.specs.Beside.{offer}
use Rattle.beside.proofs.offers.Given as goal

abbrev pub invariant-loop-u : goal.invariant-loop-u
invariant-loop-u l =
    (Begun (ties l.onto l.link l.turn) l.row
    × Row l.el (ties l.onto l.link l.turn) (cut_of l.el (longest l.keys l.el l.e l.n) l.a l.b) l.row)
    × ((turns (offer l.w l.pts l.n (macros_of l.macros) l.el (longest l.keys l.el l.e l.n) l.vertices l.far l.up l.seat l.a l.b l.k)
    l.u (l.v - l.u) l.found
    ≡ turns (offer l.w l.pts l.n (macros_of l.macros) l.el (longest l.keys l.el l.e l.n) l.vertices l.far l.up l.seat l.a l.b l.k)
    0 l.v l.fn.c)
    × (l.fn.c.gain ≤ l.found.gain))
