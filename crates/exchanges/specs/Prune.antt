-- R16: pruning takes a point that is no pin and has a single edge, with that edge, until there is none.
use Rattle.std.specs.Prelude.{Bool, true, false, ◌&&◌, ◌||◌, List, ℕ, zero, suc, ◌+◌, eqb, ℤ, get_or, set, replicate}
use Rattle.lists.specs.Any.{any}
use Rattle.plane.specs.declared.Place.{Place}
use Rattle.plane.specs.Place.{same_place}
use Rattle.plane.specs.Flat.{place_at}
use Rattle.lists.specs.Turns.{turns, seek}
use Rattle.tree.specs.Table.{tree_bound, first_end, second_end, Row, row, Tree}
use Rattle.exchanges.specs.Exchange.{closed}

-- a mark for each point: 1 for a pin
unfoldable pub mark_of : Bool → ℕ
mark_of true = 1
mark_of false = 0

unfoldable pub mark : List Place → List ℤ → ℕ → List ℕ → List ℕ
mark pins pts i t = set t i (mark_of (any (same_place (place_at pts i)) pins))

unfoldable pub marks : List Place → List ℤ → ℕ → List ℕ
marks pins pts n = turns (mark pins pts) 0 n (replicate tree_bound 0)

-- how many edges each point has
unfoldable pub count_ends : List ℕ → ℕ → List ℕ → List ℕ
count_ends ks i d =
    let a = first_end (get_or ks i 0) in
    let b = second_end (get_or ks i 0) in
    let f = set d a (get_or d a 0 + 1) in
    set f b (get_or f b 0 + 1)

-- R16: no pin, and a single edge
unfoldable pub loose : List ℕ → List ℕ → ℕ → Bool
loose pin d v = eqb (get_or pin v 0) 0 && eqb (get_or d v 0) 1

unfoldable pub loose_edge : List ℕ → List ℕ → List ℕ → ℕ → Bool
loose_edge pin d ks i = loose pin d (first_end (get_or ks i 0)) || loose pin d (second_end (get_or ks i 0))

-- of all orders, which leave the same edges (R17), this one: the first edge with such a point
unfoldable pub first_loose : List ℕ → List ℕ → ℕ → ℕ
first_loose pin ks e = seek (loose_edge pin (turns (count_ends ks) 0 e (replicate tree_bound 0)) ks) 0 e

unfoldable pub prune : List ℕ → List ℕ → ℕ → Row
prune pin ks zero = row ks 0
prune pin ks (suc e) =
    elim (eqb (first_loose pin ks (suc e)) (suc e)) [
      | true ↦ row ks (suc e)
      | false ↦ prune pin (closed (first_loose pin ks (suc e)) e ks) e
    ]

-- the edges that are left of a tree's; its points stay in their table, also those that went
unfoldable pub pruned : List Place → Tree → Tree
pruned pins t =
    record {
      points = t.points;
      count = t.count;
      edges = prune (marks pins t.points t.count) t.edges.keys t.edges.size;
    }
