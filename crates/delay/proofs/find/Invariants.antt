-- The search from here on finds what the whole search does.
use Rattle.std.proofs.Common.{◌≡◌, ◌-◌}
use Rattle.lists.specs.Turns.{seek}
use Rattle.delay.specs.Table.{is_driver}
use Rattle.delay.proofs.find.Given as goal

abbrev pub invariant-loop-i : goal.invariant-loop-i
invariant-loop-i l = seek (is_driver l.pts l.pin l.q) l.i (l.n - l.i) ≡ seek (is_driver l.pts l.pin l.q) 0 l.n
