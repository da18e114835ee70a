-- The slid tree as code hands it from table to table: the refined tree's edges as a flat list are what the slider asks for, and what it
-- leaves reads as the definition's edges; its total and its metal fit.
-- Assumes nothing.
use mathlib.Core.Path.{◌≡◌, sym, ap, ap₂, ◌∙◌, subst}
use mathlib.Core.List.{List}
use Prim.Native.Nat.{ℕ, ◌*◌, ◌≤◌}
use native.Mathlib.Omega.{arith}
use lib.IntN.{ℤ}
use lib.ListN.{length}
use Rattle.lent.specs.Over.{over}
use Rattle.lent.specs.Entries.{flat}
use Rattle.lent.proofs.EntryTable.{entries_over, length-entries}
use Rattle.joined.specs.Cost.{lengths}
use Rattle.net.specs.declared.Net.{Net as Counts}
use Rattle.net.specs.Bounds.{pin_bound}
use Rattle.net.specs.Net.{Net, net_with, net_of, handed, cost_in}
use Rattle.net.specs.Allowed.{Allowed}
use Rattle.net.proofs.AllowedLaws.{allowed-positive}
use Rattle.forest.specs.Bounds.{path_bound}
use Rattle.graph.specs.Numbers.{edge_numbers, edge_from}
use Rattle.graph.proofs.WidthLaws.{edge-width}
use Rattle.tree.specs.Edges.{table_edges}
use Rattle.tree.proofs.EdgeLaws.{edges-count}
use Rattle.refiner.specs.declared.Refined.{Refined}
use Rattle.refiner.specs.Refined.{Answer}
use Rattle.union.specs.Union.{union_of}
use Rattle.refined.specs.Ground.{ground_of}
use Rattle.refined.specs.Metal.{metal}
use Rattle.refined.proofs.MetalLaws.{metal-low}
use Rattle.laid.specs.Edges.{edges_of, laid_bound}
use Rattle.slide.specs.Slide.{slid}
use Rattle.slide.specs.Promise.{Slidable}
use Rattle.made.specs.Counted.{Counted}
use Rattle.answers.specs.Refined.{refined_of, edges_in, total_in}
use Rattle.answers.specs.Slid.{slid_in}
use Rattle.results.proofs.RefinedLaws.{total-low, answer-edges}
use Rattle.router.proofs.SlidLaws.{refined-few, refined-given, refined-ranged, slid-refined, slid-few}
use Rattle.made.proofs.CountedLaws.{as-net}

module _ {net : Net} (a : Allowed net) where
  -- the refined tree's edges are what the slider asks for
  pub refined-slidable : Slidable net (edges_in net)
  unfolding edges_in refined_of
  refined-slidable = record {
    allowed = a;
    given = refined-given a;
    few = omega (arith, refined-few a, a.few-pins, a.few-macros);
    in-range = refined-ranged a;
  }

  -- the total fits 63 bits, and so does the metal
  pub slid-low : lengths (cost_in net) (slid_in net) ≤ pin_bound * path_bound
  unfolding total_in
  slid-low = omega (arith, (slid-refined a).cheaper, total-low a)

  pub slid-metal-low : metal (slid_in net) ≤ pin_bound * path_bound
  slid-metal-low = omega (arith, metal-low net.weights (allowed-positive a) (slid_in net), slid-low)

  -- r edges of a flat list that are the slid tree's
  module _ (t : List ℤ) (r : ℕ) (is : edges_of t r ≡ slid_in net) where
    pub slid-count : r ≡ length (slid_in net)
    slid-count = sym (length-entries edge_numbers edge_from 4 edge-width t 0 r) ∙ ap length is

    pub slid-within : r ≤ laid_bound
    slid-within = omega (arith, slid-count, slid-few a, a.few-pins, a.few-macros)

-- What the refiner has left, given into a table

module _ {n : Counts} {pins macros : List ℤ} (c : Counted n (handed n.weights) pins macros) {pts : List ℤ} {ks : List ℕ} {r : Refined}
    (answer : Answer (net_of (handed n.weights) pins macros) (ground_of (net_of (handed n.weights) pins macros))
    (union_of (net_of (handed n.weights) pins macros)) pts ks r)
    (t lent : List ℤ) (stored : t ≡ over (flat edge_numbers (table_edges pts ks r.edges)) lent) where
  abbrev net : Net
  net = net_of (handed n.weights) pins macros

  table-edges : edges_of t r.edges ≡ edges_in net
  table-edges =
      ap (λ (s : List ℤ). edges_of s r.edges) stored
      ∙ entries_over edge_numbers edge_from 4 edge-width (table_edges pts ks r.edges) lent r.edges (edges-count pts ks r.edges)
      ∙ answer-edges c.allowed answer

  pub table-slidable : Slidable (net_with n.weights pins macros) (edges_of t r.edges)
  table-slidable =
      subst (Slidable (net_with n.weights pins macros)) (sym table-edges)
      (subst (λ (z : Net). Slidable z (edges_in net)) (sym (as-net c)) (refined-slidable c.allowed))

  pub table-slid : (t' : List ℤ) (k : ℕ) → edges_of t' k ≡ slid (net_with n.weights pins macros) (edges_of t r.edges) →
      edges_of t' k ≡ slid_in net
  unfolding slid_in
  table-slid t' k e = e ∙ ap₂ slid (as-net c) table-edges
