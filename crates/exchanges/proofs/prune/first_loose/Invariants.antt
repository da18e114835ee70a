-- The edges that are left decide.
use Rattle.std.proofs.Common.{◌≡◌, ◌-◌}
use Rattle.lists.specs.Turns.{seek}
use Rattle.exchanges.specs.Prune.{loose_edge}
use Rattle.exchanges.proofs.prune.first_loose.Given as goal

abbrev pub invariant-loop-i : goal.invariant-loop-i
invariant-loop-i l = seek (loose_edge l.pin l.deg l.keys) l.i (l.e - l.i) ≡ seek (loose_edge l.pin l.deg l.keys) 0 l.e
