-- No candidate gains more than the costliest edge costs.
use Rattle.std.proofs.Common.{arith}
use Rattle.tree.specs.Table.{tree_bound}
use Rattle.longest.proofs.HungLaws.{same-entry, same_length}
use Rattle.bounds.proofs.CarriedLaws.{most-bounds}
use Rattle.bounds.proofs.renew.Goals as goal

pub returns-then-not-known : goal.returns-then-not-known
returns-then-not-known c =
    most-bounds _ _ _ _ _ _ _ _ _ c.requires.low.0 _ (same_length tree_bound c.args.most)
    (λ k l. same-entry tree_bound c.args.most k (omega (arith, l, c.requires.n_le_tree_bound.0.1)))
