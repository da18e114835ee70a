-- The row is known from x up to v, and l is the longest edge on that way. The measure is the turn of v, which falls.
use Rattle.std.proofs.Common.{◌≡◌, List, ℕ, ◌<◌, length, get_or}
use Rattle.tree.specs.Table.{tree_bound}
use Rattle.longest.specs.Longest.{no_edge}
use Rattle.longest.specs.Hung.{ties, Told, Known}
use Rattle.longest.proofs.RowLaws.{Chain}
use Rattle.longest.proofs.climb.Given as goal

abbrev pub invariant-loop-v : goal.invariant-loop-v
invariant-loop-v l = (((0 < get_or l.turn l.v 0) × (l.l < tree_bound)) × ((length l.row ≡ tree_bound) × Known l.row l.v))
    × ((t : List ℕ) → Told l.el (ties l.onto l.link l.turn) t → Chain l.el (ties l.onto l.link l.turn) t l.x l.x no_edge l.initial.row
    → Chain l.el (ties l.onto l.link l.turn) t l.x l.v l.l l.row)

abbrev pub decreases-loop-v : goal.decreases-loop-v
decreases-loop-v l = get_or l.turn l.v 0
