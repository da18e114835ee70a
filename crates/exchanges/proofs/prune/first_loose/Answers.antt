-- The ends are counted, then searched.
use Rattle.std.proofs.Common.{◌≡◌, ◌∙◌, sym, arith}
use Rattle.tree.specs.Table.{tree_bound}
use Rattle.lists.proofs.TurnLaws.{seek_stop, seek-next, seek-end}
use Rattle.tree.proofs.LowLaws.{low_zeros}
use Rattle.exchanges.proofs.PruneLaws.{first-loose-is}
use Rattle.exchanges.proofs.prune.first_loose.Goals as goal

pub degrees-requires : goal.degrees-requires
degrees-requires c = (c.requires.0, (c.requires.1, low_zeros tree_bound))

pub returns-then-is_loose_edge : goal.returns-then-is_loose_edge
returns-then-is_loose_edge c = (
  first-loose-is _ _ _ _ _ c.degrees.ensures
      (seek_stop _ _ _ _ c.loop-i.invariant (omega arith) (sym c.is_loose_edge.ensures ∙ c.if-is_loose_edge.true)),
  omega arith,
)

pub loop-i-preserved : goal.loop-i-preserved
loop-i-preserved c = seek-next _ _ _ _ c.loop-i.invariant (omega arith) (sym c.is_loose_edge.ensures ∙ c.if-is_loose_edge.false)

pub returns : goal.returns
returns c =
    let z : c.args.e ≡ c.loop-i.i = omega arith in
    sym (z ∙ first-loose-is _ _ _ _ _ c.degrees.ensures (seek-end _ _ _ _ c.loop-i.invariant (omega arith)))
