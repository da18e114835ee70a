-- The paths so far stand at the front of the list.
use Rattle.std.proofs.Common.{◌≡◌}
use Rattle.lent.specs.Over.{over}
use Rattle.lent.specs.Entries.{flat}
use Rattle.terminal.specs.Tree.{path_numbers}
use Rattle.terminal.specs.Tables.{paths_in}
use Rattle.terminal.proofs.give_paths.Given as goal

abbrev pub invariant-loop-i : goal.invariant-loop-i
invariant-loop-i l = l.paths ≡ over (flat path_numbers (paths_in l.edges l.kept l.long l.i)) l.fn.paths
