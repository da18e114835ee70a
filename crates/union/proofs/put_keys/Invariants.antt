-- The marked ones of the edges before k are written by their keys.
use Rattle.std.proofs.Common.{get_or}
use Rattle.tree.specs.Table.{key}
use Rattle.union.proofs.MarkLaws.{Keying}
use Rattle.union.proofs.put_keys.Given as goal

abbrev pub invariant-loop-k : goal.invariant-loop-k
invariant-loop-k l =
    Keying (λ j. key (get_or l.rank (get_or l.ea j 0) 0) (get_or l.rank (get_or l.eb j 0) 0)) l.on l.fn.keys l.k l.c l.keys
