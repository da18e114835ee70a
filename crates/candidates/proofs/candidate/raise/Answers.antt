-- The row of s is begun, and one bound more is raised.
use Rattle.std.proofs.Common.{arith}
use Rattle.tree.specs.Table.{tree_bound}
use Rattle.longest.proofs.HungLaws.{same_length}
use Rattle.longest.proofs.RowLaws.{fresh_start}
use Rattle.candidates.proofs.BoundLaws.{raising-start, raising-next, raising-end}
use Rattle.candidates.proofs.candidate.raise.Goals as goal

pub row_of-requires : goal.row_of-requires
row_of-requires c =
    let h = c.requires.hanging in
    (h.tied, (h.all c.args.s c.requires.e_le_tree_bound.0.1, same_length tree_bound tree_bound))

pub loop-k-init : goal.loop-k-init
loop-k-init c =
    let h = c.requires.hanging in
    let m = c.row_of.ensures in
    ((m.begun, m.by_index _ h.told (fresh_start _ h.tied)), raising-start _ _ _ _ _ _ _ _ _ _ c.requires.bounded)

pub loop-k-preserved : goal.loop-k-preserved
loop-k-preserved c =
    let m = c.raised.ensures in
    let r = m.by_index _ c.requires.hanging.told c.loop-k.invariant.0.1 in (
      (m.begun_2, r.0),
      raising-next _ _ _ _ _ _ _ _ _ _ _ _ c.loop-k.invariant.1 (omega arith) c.requires.e_le_tree_bound.0.0 r.1,
    )

pub returns : goal.returns
returns c = raising-end _ _ _ _ _ _ _ _ _ _ _ c.loop-k.invariant.1 (omega arith)
