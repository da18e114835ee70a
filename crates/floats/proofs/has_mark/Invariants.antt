-- The search from here on finds what the whole search does.
use Rattle.std.proofs.Common.{◌≡◌, ◌-◌}
use Rattle.lists.specs.Any.{any}
use Rattle.floats.specs.Mark.{is_mark, marks_from}
use Rattle.floats.proofs.has_mark.Given as goal

abbrev pub invariant-loop-i : goal.invariant-loop-i
invariant-loop-i l = any is_mark (marks_from l.table l.pin l.i (l.n - l.i)) ≡ any is_mark (marks_from l.table l.pin 0 l.n)
