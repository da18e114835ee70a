-- The edges that are left decide.
use Rattle.std.proofs.Common.{◌≡◌, ◌-◌}
use Rattle.plane.specs.Flat.{macros_of}
use Rattle.lists.specs.Turns.{turns}
use Rattle.longest.specs.Longest.{longest}
use Rattle.beside.specs.Beside.{offers}
use Rattle.beside.proofs.search.Given as goal

abbrev pub invariant-loop-k : goal.invariant-loop-k
invariant-loop-k l =
    turns (offers l.w l.pts l.n (macros_of l.macros) l.keys l.el (longest l.keys l.el l.e l.n) l.vertices l.v l.far l.up l.seat)
    l.k (l.e - l.k) l.found
    ≡ turns (offers l.w l.pts l.n (macros_of l.macros) l.keys l.el (longest l.keys l.el l.e l.n) l.vertices l.v l.far l.up l.seat)
    0 l.e l.initial.found
