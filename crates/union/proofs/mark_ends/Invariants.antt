-- Marking the ends of the marked edges that are left gives what marking those of all gives.
use Rattle.std.proofs.Common.{◌≡◌, ◌-◌}
use Rattle.lists.specs.Those.{those}
use Rattle.lent.specs.Entries.{flat}
use Rattle.forest.specs.Edges.{from}
use Rattle.union.specs.Union.{both_ends}
use Rattle.union.specs.Marks.{marked, is_marked, marks}
use Rattle.union.proofs.mark_ends.Given as goal

abbrev pub invariant-loop-k : goal.invariant-loop-k
invariant-loop-k l =
    marked (flat (both_ends l.ea l.eb) (those (is_marked l.on) (from l.k (l.e - l.k)))) l.at
    ≡ marked (flat (both_ends l.ea l.eb) (marks l.on l.e)) l.fn.at
