use Rattle.tree.specs.Table.{tree_bound}
use Rattle.tree.proofs.LowLaws.{low_zeros}
use Rattle.beside.proofs.BesideLaws.{either-off, either-on, chosen_is}
use Rattle.beside.proofs.HangingLaws.{found-hanging, found-held}
use Rattle.beside.proofs.found.Goals as goal

pub costs-most-requires-clause-low : goal.costs-most-requires-clause-low
costs-most-requires-clause-low c = low_zeros tree_bound

pub renew-requires-clause-low : goal.renew-requires-clause-low
renew-requires-clause-low c =
    (c.costs-most.ensures.low_2, found-hanging _ _ _ _ _ _ _ _ c.costs-most.ensures.el_after c.requires.spanned c.reached.ensures)

pub search-on-requires-clause-low : goal.search-on-requires-clause-low
search-on-requires-clause-low c =
    (c.costs-most.ensures.low_2, found-hanging _ _ _ _ _ _ _ _ c.costs-most.ensures.el_after c.requires.spanned c.reached.ensures)

pub search-off-requires-clause-low_2 : goal.search-off-requires-clause-low_2
search-off-requires-clause-low_2 c =
    (c.costs-most.ensures.low_2, found-hanging _ _ _ _ _ _ _ _ c.costs-most.ensures.el_after c.requires.spanned c.reached.ensures)

pub returns-then-on-off-clause-value : goal.returns-then-on-off-clause-value
returns-then-on-off-clause-value c =
    chosen_is _ _ _ _ _ _ _ _ _ _ _ _ _ _ c.costs-most.ensures.el_after c.search-on.ensures.value c.search-off.ensures _
    (either-off _ _ c.if-on-off.true)

pub returns-then-on-off-clause-held : goal.returns-then-on-off-clause-held
returns-then-on-off-clause-held c =
    found-held _ _ _ _ _ _ _ _ _ c.costs-most.ensures.el_after
    (found-hanging _ _ _ _ _ _ _ _ c.costs-most.ensures.el_after c.requires.spanned c.reached.ensures) c.search-on.ensures.bounded_2

pub returns-else-on-off-clause-value : goal.returns-else-on-off-clause-value
returns-else-on-off-clause-value c =
    chosen_is _ _ _ _ _ _ _ _ _ _ _ _ _ _ c.costs-most.ensures.el_after c.search-on.ensures.value c.search-off.ensures _
    (either-on _ _ c.if-on-off.false)

pub returns-else-on-off-clause-held : goal.returns-else-on-off-clause-held
returns-else-on-off-clause-held c =
    found-held _ _ _ _ _ _ _ _ _ c.costs-most.ensures.el_after
    (found-hanging _ _ _ _ _ _ _ _ c.costs-most.ensures.el_after c.requires.spanned c.reached.ensures) c.search-on.ensures.bounded_2
