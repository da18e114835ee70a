-- The keys that are left decide.
use Rattle.std.proofs.Common.{◌≡◌, ◌-◌}
use Rattle.lists.specs.Turns.{seek}
use Rattle.refiner.specs.Graft.{not_below}
use Rattle.refiner.proofs.graft.key_rank.Given as goal

abbrev pub invariant-loop-i : goal.invariant-loop-i
invariant-loop-i l = seek (not_below l.keys l.key) l.i (l.e - l.i) ≡ seek (not_below l.keys l.key) 0 l.e
