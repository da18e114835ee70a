-- The edges that are given for an allowed net are the refined tree of its kept paths, and the only one.
-- Assumes nothing.
use mathlib.Core.Path.{◌≡◌, refl, sym, ◌∙◌, subst}
use mathlib.Core.List.{List}
use native.Mathlib.Omega.{arith}
use lib.ListN.{length}
use Rattle.lists.specs.Sorted.{Ascending}
use Rattle.lists.proofs.SortedLaws.{ascending-same}
use Rattle.joined.specs.Cost.{lengths}
use Rattle.net.specs.Allowed.{Allowed}
use Rattle.net.specs.Net.{Net, cost_in}
use Rattle.graph.specs.Edges.{before_edge}
use Rattle.graph.proofs.VertexLaws.{length-vertices}
use Rattle.tree.specs.Table.{Tree}
use Rattle.refiner.specs.Refined.{refined}
use Rattle.union.specs.Union.{union_of}
use Rattle.graph.specs.Spanning.{spanning}
use Rattle.refined.specs.Ground.{ground_of}
use Rattle.refined.proofs.NetGround.{union-ready, ground-count}
use Rattle.refined.proofs.NetRefined.{union-promise, union-tabled}
use Rattle.union.proofs.UnionSound.{union-cost}
use Rattle.tree.specs.Edges.{tree_edges}
use Rattle.refined.proofs.EdgeSound.{promised-edges}
use Rattle.tree.proofs.EdgeLaws.{tree-total}
use Rattle.refiner.proofs.RoundSound.{total_of}
use Rattle.rules.specs.Edges.{Edge, edge_before, Same}
use Rattle.rules.specs.Refined.{Refined, TreesThrough, FallsThrough}
use Rattle.rules.specs.Demand.{RefinedTree}
use Rattle.rules.proofs.EdgeLaws.{edge_order, same_turn, same_then}
use Rattle.rules.proofs.PrunesOnly.{prunes-same}
use Rattle.rules.proofs.GainOurs.{edges_in}
use Rattle.rules.proofs.RefinesOurs.{refines-ours, refines-only}
use Rattle.rules.proofs.ChartsOurs.{net-charts}
use Rattle.rules.proofs.RefinesTree.{rounds-trees}
use Rattle.rules.proofs.RefinesFall.{edges-same, rounds-fall}
use Rattle.rules.proofs.TerminalOurs.{our_paths}
use Rattle.rules.proofs.BestLaws.{paths-total}
use Rattle.rules.proofs.StartOurs.{start-ours, start-only}

module _ {net : Net} (a : Allowed net) where
  abbrev our_tree : Tree
  our_tree = refined net (ground_of net) (union_of net)

  in_order : Ascending edge_before (tree_edges our_tree)
  unfolding before_edge
  in_order = (promised-edges net (ground_of net) (union_of net) our_tree (union-promise a) (union-tabled a) _ refl).ordered

  -- the edges that are given are the refined tree
  pub refined-ours : Refined net (spanning net) (our_paths a) (tree_edges our_tree)
  refined-ours =
      let r = refines-ours (net-charts a) (union_of net) (union-ready a) in
      record {
        start = edges_in (union_of net);
        union = start-ours a;
        refines = record { rounded = r.rounded; rounds = r.rounds; prunes = prunes-same r.prunes (edges-same our_tree) };
        in_order = in_order;
      }

  -- whatever is a union of the kept paths has the edges that are started with
  start_is : (T : List Edge) {rs : List Edge} (r : Refined net (spanning net) (our_paths a) rs) → T ≡ r.start
      → Same (edges_in (union_of net)) T
  start_is T r e =
      subst (λ (S : List Edge). Same (edges_in (union_of net)) S) (sym e)
      (start-only (our_paths a) (edges_in (union_of net)) r.start (start-ours a) r.union)

  -- and there is no other
  pub refined-only : (rs : List Edge) → Refined net (spanning net) (our_paths a) rs → rs ≡ tree_edges our_tree
  refined-only rs r =
      let h = refines-only (net-charts a) (union_of net) (union-ready a) r.start rs (start_is r.start r refl) r.refines in
      let k = same_then (same_turn h) (edges-same our_tree) in
      ascending-same edge_before edge_order rs (tree_edges our_tree) r.in_order in_order k.0 k.1

  -- every tree on the way there is one tree, its points the pins and the ends of its edges
  pub between-trees : (rs : List Edge) (r : Refined net (spanning net) (our_paths a) rs) →
      TreesThrough net (spanning net) (length net.pins) r.start r.refines.rounded r.refines.rounds
  between-trees rs r =
      rounds-trees (net-charts a) (length net.pins) (union_of net) (union-ready a) r.start r.refines.rounded
      (start_is r.start r refl) r.refines.rounds

  -- and each round makes it shorter by its gain
  pub falls-between : (rs : List Edge) (r : Refined net (spanning net) (our_paths a) rs) →
      FallsThrough net (spanning net) (length net.pins) r.start r.refines.rounded r.refines.rounds
  falls-between rs r =
      rounds-fall (net-charts a) (length net.pins) (union_of net) (union-ready a) r.start r.refines.rounded
      (start_is r.start r refl) r.refines.rounds

  -- D3, its last sentence
  pub refined-tree : RefinedTree net (our_paths a) (tree_edges our_tree)
  refined-tree =
      let g = promised-edges net (ground_of net) (union_of net) our_tree (union-promise a) (union-tabled a)
      (lengths (cost_in net) (tree_edges our_tree))
      (tree-total net.weights our_tree
      ∙ sym (total_of net.weights our_tree.points our_tree.count our_tree.edges.keys our_tree.edges.size)) in
      record {
        one = g.one;
        clear-edges = g.free;
        smaller-first = g.smaller;
        in_order = in_order;
        no_longer = omega (arith, g.less, tree-total net.weights (union_of net), union-cost a, paths-total a);
        few = omega (arith, g.few, ground-count a, length-vertices net);
      }
