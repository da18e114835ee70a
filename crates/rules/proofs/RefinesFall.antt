-- R14: each round of every solution makes the sum of the edges smaller by its gain. The tables do (`round-falls`), and an ascending list of
-- the same edges is the list of the table.
-- Assumes nothing.
use mathlib.Core.Path.{◌≡◌, sym, ap, ◌∙◌, subst}
use mathlib.Core.Logic.{inl, inr}
use mathlib.Core.List.{List, reverse}
use Prim.Native.Nat.{ℕ, zero, suc, ◌+◌}
use native.Mathlib.Omega.{arith}
use lib.Dec.{eqb}
use borrow.Author.Tests.{eqb-true, eqb-false}
use Rattle.lists.specs.Member.{◌∈◌}
use Rattle.lists.specs.Sorted.{Ascending}
use Rattle.lists.proofs.TestLaws.{by}
use Rattle.lists.proofs.MemberLaws.{in-reverse, of_reverse}
use Rattle.lists.proofs.SortedLaws.{ascending-same}
use Rattle.plane.proofs.PlaceOrder.{place_same}
use Rattle.joined.specs.Cost.{lengths}
use Rattle.joined.proofs.TreeLaws.{tree-cuts}
use Rattle.net.specs.Net.{Net, cost_in}
use Rattle.graph.specs.Edges.{before_edge}
use Rattle.tree.specs.Table.{Tree}
use Rattle.tree.specs.Places.{tree_total}
use Rattle.beside.specs.Beside.{Ground}
use Rattle.refiner.specs.Ready.{Ready}
use Rattle.refiner.proofs.RoundSteps.{choice_in}
use Rattle.refiner.proofs.RoundReady.{round-onward}
use Rattle.tree.specs.Edges.{tree_edges}
use Rattle.refined.proofs.EdgeSound.{edges-ascending}
use Rattle.tree.proofs.EdgeLaws.{edges-reversed, tree-total}
use Rattle.rules.specs.Edges.{Edge, edge_before, Same}
use Rattle.rules.specs.Refined.{Rounds, FallsThrough}
use Rattle.rules.proofs.EdgeLaws.{edge_order, same_turn, same_then}
use Rattle.rules.proofs.RoundOnly.{gain-same, takes_same, takes-only, round-only}
use Rattle.rules.proofs.GainOurs.{edges_in}
use Rattle.rules.proofs.ReachOurs.{Charts, charts-lawful}
use Rattle.rules.proofs.RefinesOurs.{next_in, no-gain, some-gain, mine-gain}

-- the edges of a tree from either end
pub edges-same : (t : Tree) → Same (edges_in t) (tree_edges t)
edges-same t = (
  λ x i. of_reverse (tree_edges t) x (subst (λ (l : List Edge). x ∈ l) (sym reversed) i),
  λ x i. subst (λ (l : List Edge). x ∈ l) reversed (in-reverse (tree_edges t) x i),
)
  where
    reversed : reverse (tree_edges t) ≡ edges_in t
    reversed = edges-reversed t.points t.edges.keys t.edges.size

module _ {net : Net} {G : List Edge} {g : Ground} (charts : Charts net G g) where
  tree-in-order : (m : ℕ) (t : Tree) → Ready net g t m → Ascending edge_before (tree_edges t)
  unfolding before_edge
  tree-in-order m t ready =
      edges-ascending t.points t.edges.keys t.count ready.sound.ordered ready.sound.within t.edges.size
      ready.ranked t.edges.size 0 (omega arith)

  -- an ascending list of a table's edges has their sum
  sum_is : (m : ℕ) (t : Tree) → Ready net g t m → (T : List Edge) → Ascending edge_before T → Same (edges_in t) T → lengths (cost_in net) T
      ≡ tree_total net.weights t
  sum_is m t ready T o h =
      let k = same_then (same_turn h) (edges-same t) in
      ap (lengths (cost_in net)) (ascending-same edge_before edge_order T (tree_edges t) o (tree-in-order m t ready) k.0 k.1) ∙
      tree-total net.weights t

  pub rounds-fall : (m : ℕ) (t : Tree) → Ready net g t m → (T U : List Edge) → Same (edges_in t) T →
      (r : Rounds net G m T U) → FallsThrough net G m T U r
  rounds-fall zero t ready T U h r = tt
  rounds-fall (suc m) t ready T U h (inl r) = tt
  rounds-fall (suc m) t ready T U h (inr (X, (r, more))) =
      by (eqb (choice_in net g t).best.gain 0)
      (λ q.
      absurd (no-gain charts m t ready (eqb-true _ _ q) r.k r.a r.b r.u r.v r.qs r.l r.g
      (gain-same (same_turn h) r.takes.taken)))
      (λ q.
      let some : (choice_in net g t).best.gain ≡ 0 → ⊥ = eqb-false _ _ q in
      let law = charts-lawful charts t ready.sound in
      let cuts = tree-cuts place_same ready.sound.whole in
      let mine = some-gain charts m t ready some in
      let next = round-only law cuts h mine r in
      let o = round-onward net g t m ready some in
      let same = (takes-only law cuts mine.takes (takes_same (same_turn h) r.takes)).gains in
      let gain = mine-gain charts m t ready some in (
        λ before after p s v w.
            let old = sum_is (suc m) t ready before p (same_then h v) in
            let new = sum_is m (next_in charts t) o.ready after s (same_then next w) in
            omega (arith, old, new, same, gain, o.falls),
        rounds-fall m (next_in charts t) o.ready X U next more,
      ))
