-- The points that are left decide.
use Rattle.std.proofs.Common.{◌≡◌, ◌-◌}
use Rattle.net.specs.Pins.{pin_places}
use Rattle.lists.specs.Turns.{turns}
use Rattle.exchanges.specs.Prune.{mark}
use Rattle.exchanges.proofs.prune.mark_pins.Given as goal

abbrev pub invariant-loop-i : goal.invariant-loop-i
invariant-loop-i l = turns (mark (pin_places l.pins) l.pts) l.i (l.n - l.i) l.pin ≡ turns (mark (pin_places l.pins) l.pts) 0 l.n l.fn.pin
