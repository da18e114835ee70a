-- The answer of a graph by its cases.
-- Assumes nothing.
use mathlib.Core.Path.{◌≡◌, refl}
use mathlib.Core.Bool.{true, false, ◌||◌}
use mathlib.Core.List.{List}
use Prim.Native.Nat.{ℕ, ◌*◌, ◌≤◌}
use native.Mathlib.Omega.{arith}
use borrow.Author.Tests.{ltb-false}
use lib.Dec.{ltb}
use lib.IntN.{ℤ}
use lib.ListN.{length}
use Rattle.lists.proofs.TestLaws.{or-none}
use Rattle.lent.specs.Told.{refused, given, only_if}
use Rattle.plane.proofs.FlatLaws.{length-macros}
use Rattle.net.specs.declared.Net.{Net as Counts}
use Rattle.net.specs.declared.Weighing.{Weighing}
use Rattle.net.specs.Net.{net_of}
use Rattle.net.proofs.PinLaws.{length-pins}
use Rattle.checks.specs.Check.{checked}
use Rattle.graph.proofs.VertexLaws.{length-vertices}
use Rattle.answers.specs.Graph.{net_vertices, net_edges, point_count, graph_room_short, graph_given, graphed}

module _ (w : Weighing) (pins macros : List ℤ) (v e : ℕ) where
  pub graphed-refused : (n : ℕ) → checked w pins macros ≡ refused n → graphed w pins macros v e ≡ refused n
  unfolding graphed only_if
  graphed-refused n r = rw r refl

  pub graphed-allowed : (net : Counts) → checked w pins macros ≡ given net → graphed w pins macros v e ≡ graph_given w pins macros v e
  unfolding graphed only_if
  graphed-allowed net r = rw r refl

  pub graph-short : (ltb v (point_count pins macros * 2) || ltb e (point_count pins macros * 16)) ≡ true → graph_given w pins macros v e
      ≡ refused 21
  unfolding graph_given graph_room_short
  graph-short r = rw r refl

  pub graph-fits : (ltb v (point_count pins macros * 2) || ltb e (point_count pins macros * 16)) ≡ false
      → graph_given w pins macros v e ≡ given (length (net_vertices w pins macros), length (net_edges w pins macros))
  unfolding graph_given graph_room_short
  graph-fits r = rw r refl

  -- the room that is there
  pub graph-room : (ltb v (point_count pins macros * 2) || ltb e (point_count pins macros * 16)) ≡ false
      → (point_count pins macros * 2 ≤ v) × (point_count pins macros * 16 ≤ e)
  graph-room r =
      let s = or-none (ltb v (point_count pins macros * 2)) (ltb e (point_count pins macros * 16)) r in
      (ltb-false v (point_count pins macros * 2) s.0, ltb-false e (point_count pins macros * 16) s.1)

-- at most n vertices
pub vertices-few : (w : Weighing) (pins macros : List ℤ) → length (net_vertices w pins macros) ≤ point_count pins macros
unfolding net_vertices
vertices-few w pins macros =
    omega (arith, length-vertices (net_of w pins macros), length-pins pins, length-macros macros)
