use Rattle.std.proofs.Common.{◌≡◌}
use Rattle.net.specs.Pins.{pin_at}
use Rattle.turned.specs.Steps.{up_to, set_by}
use Rattle.moves.specs.Moving.{seat_of}
use Rattle.moves.proofs.seat.Given as goal

abbrev pub invariant-loop-j : goal.invariant-loop-j
invariant-loop-j l =
    l.seats ≡ up_to (set_by (λ i x. seat_of l.pts l.n (pin_at l.pins i))) l.j l.initial.seats
