-- The edges that are left decide, and no count is above twice those passed.
use Rattle.std.proofs.Common.{◌≡◌, ◌-◌, ◌*◌}
use Rattle.lists.specs.Turns.{turns}
use Rattle.tree.specs.Table.{Low}
use Rattle.exchanges.specs.Prune.{count_ends}
use Rattle.exchanges.proofs.prune.degrees.Given as goal

abbrev pub invariant-loop-i : goal.invariant-loop-i
invariant-loop-i l =
    Low (l.i * 2) l.deg × (turns (count_ends l.keys) l.i (l.e - l.i) l.deg ≡ turns (count_ends l.keys) 0 l.e l.fn.deg)
