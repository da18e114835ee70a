-- Points found, longest edges no longer, bounds taken over, and the further point taken in.
use Rattle.std.proofs.Common.{arith}
use Rattle.tree.specs.Table.{tree_bound}
use Rattle.longest.proofs.FoundLaws.{small_all}
use Rattle.longest.proofs.HungLaws.{same_length}
use Rattle.bounds.proofs.CarriedLaws.{carried, bounded-all}
use Rattle.bounds.proofs.carried.Goals as goal

pub numbers-requires : goal.numbers-requires
numbers-requires c = (
  (c.requires.was.few.0, c.requires.n_le_tree_bound.0.0),
  (same_length tree_bound 0, small_all tree_bound tree_bound 0 (omega arith) (omega arith)),
)

pub raise-requires-clause-bounded : goal.raise-requires-clause-bounded
raise-requires-clause-bounded c =
    let h = c.requires.low.1 in
    let k = c.carry.ensures in
    let N = rw c.in-Some-fresh.is at c.in-Some.ensures.numbered.1 in
    carried _ _ _ _ _ _ _ c.requires.was _ _ _ _ _ _ h _ _ N (c.is_calm.ensures _ h.told c.if-not-is_calm.false) _ _ c.requires.low.0 k.1
    c.requires.n_le_tree_bound.0.0 k.0

pub returns-in_default-fresh-clause-bounded : goal.returns-in_default-fresh-clause-bounded
returns-in_default-fresh-clause-bounded c _ =
    let h = c.requires.low.1 in
    let k = c.carry.ensures in
    let N = rw c.in_default-fresh.is at c.in-Some.ensures.numbered.1 in
    let calm = c.is_calm.ensures _ h.told c.if-not-is_calm.false in
    bounded-all _ _ _ _ _ _ _ c.requires.was _ _ _ _ _ _ h _ _ N calm _ (omega arith)
    (carried _ _ _ _ _ _ _ c.requires.was _ _ _ _ _ _ h _ _ N calm _ _ c.requires.low.0 k.1 c.requires.n_le_tree_bound.0.0 k.0)
