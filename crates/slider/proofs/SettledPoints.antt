-- The points of settled tables are the tree points of their edges.
-- Assumes nothing.
use mathlib.Core.Path.{◌≡◌, sym, ap, ◌∙◌}
use mathlib.Core.List.Memᴰ
use mathlib.Core.List.{List, ◌++◌}
use Rattle.lists.specs.Member.{Among}
use Rattle.lists.specs.Sorted.{first_then}
use Rattle.lists.proofs.TestLaws.{either}
use Rattle.lists.proofs.SortedLaws.{in-sorted, of-sorted, sorted-ascending, ascending-same}
use Rattle.plane.specs.declared.Place.{Place}
use Rattle.plane.specs.Place.{before}
use Rattle.plane.proofs.PlaceOrder.{place-order}
use Rattle.tree.specs.Table.{Tree}
use Rattle.slide.specs.Bend.{Edge}
use Rattle.slide.specs.Slide.{ends, in_their_order}
use Rattle.slide.proofs.PointLaws.{in-ends, of-ends, edge_order}
use Rattle.straight.specs.Table.{points, edges}
use Rattle.settled.specs.Settled.{points_of, Settled}

-- ends of the same edges are the same places
ends-among : (T U : List Edge) → Among T U → Among (ends T) (ends U)
ends-among T U h x m =
    let r = of-ends T x m in
    either (λ i. (in-ends U x r.0 (h (x, r.0) i)).0) (λ i. (in-ends U r.0 x (h (r.0, x) i)).1) r.1

points-among : (pins : List Place) (T U : List Edge) → Among T U → Among (points_of pins T) (points_of pins U)
points-among pins T U h x m =
    in-sorted before place-order (pins ++ ends U) x
    (either (λ i. Memᴰ.append_left (ends U) i) (λ i. Memᴰ.append_right pins (ends-among T U h x i))
    (Memᴰ.append_cases pins (of-sorted before (pins ++ ends T) x m)))

-- the points of settled tables are the tree points of their edges
pub settled-points : (pins : List Place) (U : List Edge) (t : Tree) → Settled pins U t → points t ≡ points_of pins (edges t)
settled-points pins U t s =
    s.placed
    ∙ ascending-same before place-order (points_of pins U) (points_of pins (in_their_order U))
    (sorted-ascending before place-order (pins ++ ends U)) (sorted-ascending before place-order (pins ++ ends (in_their_order U)))
    (points-among pins U (in_their_order U) (in-sorted (first_then before before) edge_order U))
    (points-among pins (in_their_order U) U (of-sorted (first_then before before) U))
    ∙ ap (points_of pins) (sym s.sorted)
