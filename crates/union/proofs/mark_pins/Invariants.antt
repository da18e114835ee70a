-- Marking the pins that are left gives what marking all gives.
use Rattle.std.proofs.Common.{◌≡◌, ◌-◌}
use Rattle.forest.specs.Edges.{entries}
use Rattle.union.specs.Marks.{marked}
use Rattle.union.proofs.mark_pins.Given as goal

abbrev pub invariant-loop-v : goal.invariant-loop-v
invariant-loop-v l = marked (entries l.pin l.v-index (l.m - l.v-index)) l.at ≡ marked (entries l.pin 0 l.m) l.fn.at
