-- R8: L. The longest edge between every two points, from one table. Edges are long by what they cost.
--
-- A tree is gone through by hanging points on what is reached, from the first point on. Where an edge hangs a new point v on a reached p,
-- the way from v to a reached w is that edge and the way from p to w.
use Rattle.std.specs.Prelude.{Bool, true, false, List, ℕ, ◌-◌, ltb, eqb, ℤ, get_or, set, replicate}
use Rattle.plane.specs.declared.Weights.{Weights}
use Rattle.plane.specs.Cost.{cost}
use Rattle.plane.specs.Flat.{place_at}
use Rattle.lists.specs.Turns.{turns}
use Rattle.tree.specs.Table.{tree_bound, pair_bound, key, first_end, second_end}

-- what the edge k costs
unfoldable pub edge_cost : Weights → List ℤ → List ℕ → ℕ → ℕ
edge_cost w pts keys k = cost w (place_at pts (first_end (get_or keys k 0))) (place_at pts (second_end (get_or keys k 0)))

unfoldable pub measure : Weights → List ℤ → List ℕ → ℕ → List ℕ → List ℕ
measure w pts keys k el = set el k (edge_cost w pts keys k)

-- the costs of all edges; past them no cost stands
unfoldable pub costs : Weights → List ℤ → List ℕ → ℕ → List ℕ
costs w pts keys e = turns (measure w pts keys) 0 e (replicate tree_bound 0)

-- R8: k is longer than l, or as long and smaller
unfoldable pub wins : List ℕ → ℕ → ℕ → Bool
wins el k l =
    elim (ltb (get_or el l 0) (get_or el k 0)) [
      | true ↦ true
      | false ↦ elim (ltb (get_or el k 0) (get_or el l 0)) [ true ↦ false | false ↦ ltb k l ]
    ]

unfoldable pub longer : List ℕ → ℕ → ℕ → ℕ
longer el k l = elim (wins el k l) [ true ↦ k | false ↦ l ]

unfoldable pub shorter : List ℕ → ℕ → ℕ → ℕ
shorter el k l = elim (wins el k l) [ true ↦ l | false ↦ k ]

-- no edge: the last number, which no edge of a tree has; it costs 0
abbrev pub no_edge : ℕ
no_edge = tree_bound - 1

-- v hangs on p by edge k: the longest edge on the way from v to w, and back
unfoldable pub spread : List ℕ → ℕ → ℕ → ℕ → ℕ → List ℕ → List ℕ
spread el v p k w t =
    let x = longer el (get_or t (key p w) 0) k in
    set (set t (key v w) x) (key w v) x

-- the same to all points; on the way from v to itself there is no edge
unfoldable pub spreads : List ℕ → ℕ → ℕ → ℕ → ℕ → List ℕ → List ℕ
spreads el n v p k t = set (turns (spread el v p k) 0 n t) (key v v) no_edge

-- points that are reached, and the longest edge on the way from each to each
pub record Reach : Type 0 where
  pub seen : List ℕ
  pub top : List ℕ

abbrev pub reach : List ℕ → List ℕ → Reach
reach s t = record { seen = s; top = t }

unfoldable pub hang : List ℕ → ℕ → ℕ → ℕ → ℕ → Reach → Reach
hang el n v p k r = reach (set r.seen v 1) (spreads el n v p k r.top)

-- edge k from a to b, where one of the two is reached
unfoldable pub attach : List ℕ → ℕ → ℕ → ℕ → ℕ → Reach → Reach
attach el n a b k r =
    elim (eqb (get_or r.seen a 0) (get_or r.seen b 0)) [
      | true ↦ r
      | false ↦ elim (eqb (get_or r.seen a 0) 0) [ true ↦ hang el n a b k r | false ↦ hang el n b a k r ]
    ]

unfoldable pub pass : List ℕ → List ℕ → ℕ → ℕ → Reach → Reach
pass keys el n k r = attach el n (first_end (get_or keys k 0)) (second_end (get_or keys k 0)) k r

-- as many passes over the edges as there are edges
unfoldable pub reached : List ℕ → List ℕ → ℕ → ℕ → Reach → Reach
reached keys el e n r = turns (λ _ q. turns (pass keys el n) 0 e q) 0 e r

-- at first the point 0 is reached
unfoldable pub start : Reach
start = reach (set (replicate tree_bound 0) 0 1) (replicate pair_bound no_edge)

unfoldable pub longest : List ℕ → List ℕ → ℕ → ℕ → List ℕ
longest keys el e n = (reached keys el e n start).top

-- R8: L, the longest edge on the way from u to the nearer end: of the ways from u to a and to b one goes on over (a, b) where the other
-- ends, so it is the shorter one's
unfoldable pub cut_of : List ℕ → List ℕ → ℕ → ℕ → ℕ → ℕ
cut_of el top a b u = shorter el (get_or top (key a u) 0) (get_or top (key b u) 0)
