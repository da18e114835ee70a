-- The refiner's answer reads as the definition's edges; its total fits, and its metal is no more.
-- Assumes nothing.
use mathlib.Core.Path.{◌≡◌, sym, ap, ◌∙◌}
use mathlib.Core.List.{List}
use Prim.Native.Nat.{ℕ, ◌+◌, ◌*◌, ◌≤◌, ◌<◌}
use native.Mathlib.Omega.{arith}
use lib.IntN.{ℤ}
use lib.ListN.{length}
use Rattle.joined.specs.Cost.{lengths}
use Rattle.net.specs.Net.{Net, cost_in}
use Rattle.net.specs.Allowed.{Allowed}
use Rattle.net.proofs.AllowedLaws.{allowed-positive}
use Rattle.net.specs.Bounds.{pin_bound}
use Rattle.forest.specs.Bounds.{path_bound}
use Rattle.terminal.proofs.PathLaws.{total-small}
use Rattle.refiner.specs.declared.Refined.{Refined}
use Rattle.tree.specs.Table.{tree_bound, pair_bound, Small}
use Rattle.refiner.specs.Refined.{Answer}
use Rattle.exchanges.proofs.WithinLaws.{within-small}
use Rattle.union.specs.Union.{union_of}
use Rattle.refined.specs.Ground.{ground_of}
use Rattle.tree.specs.Edges.{table_edges, tree_edges}
use Rattle.tree.proofs.EdgeLaws.{edges-count, edges-total}
use Rattle.refiner.proofs.RoundSound.{total_of}
use Rattle.refined.specs.Metal.{metal}
use Rattle.refined.proofs.MetalLaws.{metal-low as metal-lengths}
use Rattle.rules.proofs.BestLaws.{paths-total}
use Rattle.rules.proofs.RefinedOurs.{refined-tree}
use Rattle.answers.specs.Refined.{refined_of, edges_in, total_in}

module _ {net : Net} (a : Allowed net) where
  -- it fits 63 bits
  pub total-low : total_in net ≤ pin_bound * path_bound
  unfolding total_in edges_in refined_of
  total-low = omega (arith, (refined-tree a).no_longer, paths-total a, total-small a)

  -- and so does its metal
  pub metal-low : metal (edges_in net) ≤ total_in net
  unfolding total_in
  metal-low = metal-lengths net.weights (allowed-positive a) (edges_in net)

  -- What the refiner's tables and its answer hold

  module _ {pts : List ℤ} {ks : List ℕ} {r : Refined} (answer : Answer net (ground_of net) (union_of net) pts ks r) where
    pub answer-edges : table_edges pts ks r.edges ≡ edges_in net
    unfolding edges_in refined_of
    answer-edges = ap tree_edges answer.whole

    pub answer-count : r.edges ≡ length (edges_in net)
    answer-count = sym (edges-count pts ks r.edges) ∙ ap length answer-edges

    pub answer-total : r.total ≡ total_in net
    unfolding total_in
    answer-total =
        answer.sum
        ∙ total_of net.weights pts r.points ks r.edges
        ∙ sym (edges-total pts ks net.weights r.edges)
        ∙ ap (lengths (cost_in net)) answer-edges

    pub answer-small : Small pair_bound ks
    answer-small = within-small r.points ks answer.few.0 answer.inside

    pub answer-few : r.edges < length net.pins + length net.macros * 4 + length net.pins
    unfolding edges_in refined_of
    answer-few = omega (arith, answer-count, (refined-tree a).few)

    -- and what `refined::metal` makes of them
    pub answer-metal : {l : ℕ} → l ≡ metal (table_edges pts ks r.edges) → l ≡ metal (edges_in net)
    answer-metal e = e ∙ ap metal answer-edges

    pub metal-asks : (r.edges ≤ tree_bound) × Small pair_bound ks
    metal-asks = (answer.few.1, answer-small)
