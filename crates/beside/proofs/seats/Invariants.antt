-- The vertices that are left decide.
use Rattle.std.proofs.Common.{◌≡◌, ◌-◌}
use Rattle.lists.specs.Turns.{turns}
use Rattle.beside.specs.Beside.{take_seat}
use Rattle.beside.proofs.seats.Given as goal

abbrev pub invariant-loop-i : goal.invariant-loop-i
invariant-loop-i l =
    turns (take_seat l.pts l.n l.vertices l.root) l.i (l.v - l.i) l.seat
    ≡ turns (take_seat l.pts l.n l.vertices l.root) 0 l.v l.initial.seat
