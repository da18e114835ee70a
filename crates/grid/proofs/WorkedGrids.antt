-- Worked grids: the definitions tried out by computing. Four pins without a macro (E22), and two macros that touch (E23).
-- Assumes nothing.
use mathlib.Core.Path.{◌≡◌, refl}
use mathlib.Core.Bool.{true}
use mathlib.Core.List.{List, [], ◌∷◌}
use Prim.Native.Nat.{ℕ, ◌≤◌}
use native.Mathlib.Omega.{arith}
use lib.IntN.{pos, negsuc}
use lib.ListN.{length}
use Rattle.lists.specs.Any.{any}
use Rattle.lists.specs.Sorted.{sorted, put}
use Rattle.lists.specs.Those.{those}
use Rattle.signed.specs.Order.{z_min, z_max}
use Rattle.joined.specs.Way.{long}
use Rattle.plane.specs.declared.Place.{Place}
use Rattle.plane.specs.declared.Weights.{Weights}
use Rattle.plane.specs.Place.{place}
use Rattle.plane.specs.Distance.{apart}
use Rattle.plane.specs.Cost.{cost, plain}
use Rattle.plane.specs.Macro.{macro, span_meets, meets, clear}
use Rattle.plane.proofs.CostLaws.{cost-self, cost-triangle}
use Rattle.net.specs.Net.{Net, cost_in}
use Rattle.grid.specs.Walk.{Walk, stop, go}
use Rattle.lines.specs.Lines.{coordinate, sides, marks, lines_of, x_lines, y_lines}
use Rattle.lines.specs.Edges.{nexts, row, column, rows, columns, edges_of, grid_edges}
use Rattle.grid.specs.Distance.{TrueDistance}
use Rattle.grid.proofs.BoxWalk.{box-walk}

abbrev four : Net
four = record {
  pins = place (pos 1) (pos 0) ∷ (place (pos 1) (pos 3) ∷ (place (pos 0) (pos 1) ∷ (place (pos 2) (pos 2) ∷ [])));
  macros = [];
  weights = plain;
}

-- pins (2, -1) and (2, 3), above and below the side that two macros share; 1 across and 8 along
abbrev touching : Net
touching = record {
  pins = place (pos 2) (negsuc 0) ∷ (place (pos 2) (pos 3) ∷ []);
  macros = macro (pos 0) (pos 0) (pos 2) (pos 2) ∷ (macro (pos 2) (pos 0) (pos 4) (pos 2) ∷ []);
  weights = record { across = 1; along = 8 };
}

-- Lines and edges

lines-across : x_lines four ≡ pos 0 ∷ (pos 1 ∷ (pos 2 ∷ []))
unfolding lines_of marks sides coordinate sorted put
lines-across = refl

lines-along : y_lines four ≡ pos 0 ∷ (pos 1 ∷ (pos 2 ∷ (pos 3 ∷ [])))
unfolding lines_of marks sides coordinate sorted put
lines-along = refl

-- what has to be unfolded to count edges
unfoldable pub edge_count : Net → ℕ
unfolding grid_edges edges_of rows columns row column nexts lines_of marks sides coordinate sorted put those clear any meets span_meets z_min
    z_max
edge_count net = length (grid_edges net)

-- 4 rows of 2 and 3 columns of 3
four-edges : edge_count four ≡ 17
unfolding edge_count
four-edges = refl

-- 4 rows of 2 and 3 columns of 3; no line runs through an interior, and the shared side is an edge
touching-edges : edge_count touching ≡ 17
unfolding edge_count
touching-edges = refl

-- Distances

-- no walk costs less than its ends
walk-least : (w : Weights) {R : Place → Place → Type 0} {p q : Place} {ps : List Place} → Walk R p ps q → cost w p q ≤ long (cost w) p ps
unfolding long
walk-least w (stop {x = p} {y = q} e) = rw e (omega (arith, cost-self w q))
walk-least w (go {x = p} {y = t} {z = q} r v) = omega (arith, walk-least w v, cost-triangle w p t q)

-- two places clear of each other are as far apart as they cost
clear-distance : (net : Net) (p q : Place) → clear p q net.macros ≡ true → TrueDistance net p q (cost_in net p q)
clear-distance net p q h =
    let w = box-walk net.macros net.weights p q h in
    record { points = w.points; walk = w.walk; costs = w.costs; least = λ qs v. walk-least net.weights v }

-- E22: 3, where the graph's way is 5
pub worked-four : TrueDistance four (place (pos 1) (pos 0)) (place (pos 1) (pos 3)) 3
unfolding cost apart clear any
worked-four = clear-distance four (place (pos 1) (pos 0)) (place (pos 1) (pos 3)) refl

-- E23: 32, along the side that the macros share
pub worked-touching : TrueDistance touching (place (pos 2) (negsuc 0)) (place (pos 2) (pos 3)) 32
unfolding cost apart clear any meets span_meets z_min z_max
worked-touching = clear-distance touching (place (pos 2) (negsuc 0)) (place (pos 2) (pos 3)) refl
