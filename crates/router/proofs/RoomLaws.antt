-- What an operation finds too little, in the numbers of the two lists: the check has counted them.
-- Assumes nothing.
use mathlib.Core.Path.{◌≡◌, ap, ap₂}
use mathlib.Core.Bool.{◌||◌}
use mathlib.Core.List.{List}
use Prim.Native.Nat.{ℕ}
use lib.Dec.{ltb}
use lib.IntN.{ℤ}
use Rattle.net.specs.declared.Net.{Net as Counts}
use Rattle.net.specs.declared.Weighing.{Weighing}
use Rattle.net.specs.Pins.{pin_count}
use Rattle.net.specs.Counts.{point_count as counted_points}
use Rattle.room.specs.Needs.{vertex_need, link_need, path_need, edge_need, wire_need}
use Rattle.made.specs.Counted.{Counted}
use Rattle.made.proofs.CountedLaws.{as-points, as-pins}
use Rattle.answers.specs.Graph.{point_count}

module _ {n : Counts} {w : Weighing} {pins macros : List ℤ} (c : Counted n w pins macros) (room : ℕ) where
  pub graph-asks : (edges : ℕ) → (ltb room (vertex_need (counted_points n)) || ltb edges (link_need (counted_points n)))
      ≡ (ltb room (vertex_need (point_count pins macros)) || ltb edges (link_need (point_count pins macros)))
  graph-asks edges = ap (λ (k : ℕ). ltb room (vertex_need k) || ltb edges (link_need k)) (as-points c)

  pub paths-ask : ltb room (path_need n.pins) ≡ ltb room (path_need (pin_count pins))
  paths-ask = ap (λ (m : ℕ). ltb room (path_need m)) (as-pins c)

  pub edges-ask : ltb room (edge_need (counted_points n) n.pins) ≡ ltb room (edge_need (point_count pins macros) (pin_count pins))
  edges-ask = ap₂ (λ (k m : ℕ). ltb room (edge_need k m)) (as-points c) (as-pins c)

  pub wires-ask : ltb room (wire_need (counted_points n) n.pins) ≡ ltb room (wire_need (point_count pins macros) (pin_count pins))
  wires-ask = ap₂ (λ (k m : ℕ). ltb room (wire_need k m)) (as-points c) (as-pins c)
