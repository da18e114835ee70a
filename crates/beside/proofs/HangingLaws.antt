-- The rows that both searches read: filled from what the edges cost, they are those of the tree.
-- Assumes nothing.
use mathlib.Core.Path.{◌≡◌, ap, ◌∙◌, subst}
use mathlib.Core.List.{List}
use Prim.Native.Nat.{ℕ, ◌≤◌, ◌<◌}
use native.Mathlib.Omega.{arith}
use lib.IntN.{ℤ}
use lib.ListN.{get_or, replicate}
use Rattle.lists.specs.Turns.{turns}
use Rattle.plane.specs.declared.Macro.{Macro}
use Rattle.plane.specs.declared.Weights.{Weights}
use Rattle.tree.specs.Table.{tree_bound, Within}
use Rattle.longest.specs.Longest.{no_edge, measure, costs, longest, Reach, reached, start}
use Rattle.longest.specs.Hung.{Ties, Hung, Hanging, Spanned}
use Rattle.candidates.specs.Bounded.{Bounded}
use Rattle.bounds.specs.Carried.{Held}
use Rattle.longest.proofs.HungLaws.{begun, hung-start}
use Rattle.longest.proofs.PairLaws.{hanging}
use Rattle.exchanges.proofs.WithinLaws.{measured-past, zeros-at}

-- the number that stands for no edge costs nothing
pub no-cost : (w : Weights) (pts : List ℤ) (ks : List ℕ) (e : ℕ) → e < tree_bound → get_or (costs w pts ks e) no_edge 0 ≡ 0
unfolding costs
no-cost w pts ks e h = measured-past w pts ks no_edge e 0 (replicate tree_bound 0) (omega arith) ∙ zeros-at tree_bound no_edge

-- the rows that the code has filled are those of the tree
pub found-hanging : (w : Weights) (pts : List ℤ) (ks : List ℕ) (e n : ℕ) (el : List ℕ) (d : ℕ) (s : Ties) →
    el ≡ turns (measure w pts ks) 0 e (replicate tree_bound 0) → Spanned ks e n →
    ((el : List ℕ) (n : ℕ) (r : Reach) → n ≤ tree_bound → Within n ks → Hung ks el e n 1 begun r →
    Hung ks el e n d s (reached ks el e n r)) →
    Hanging ks el e n s
unfolding costs
found-hanging w pts ks e n el d s q p f =
    hanging ks el e n d s (f el n start p.few p.within (hung-start ks el e n (omega (arith, p.size)))) p
    (ap (λ (x : List ℕ). get_or x no_edge 0) q ∙ no-cost w pts ks e (omega (arith, p.size, p.few)))

-- so they are what is held of the tree
pub found-held : (w : Weights) (ms : List Macro) (pts : List ℤ) (n : ℕ) (ks : List ℕ) (e : ℕ) (el : List ℕ) (s : Ties) (bound : List ℕ) →
    el ≡ turns (measure w pts ks) 0 e (replicate tree_bound 0) → Hanging ks el e n s →
    Bounded w pts n ms ks e el (longest ks el e n) n bound → Held w ms pts n ks e bound
unfolding costs
found-held w ms pts n ks e el s bound q h b = record {
  rows = s;
  hanging = subst (λ (x : List ℕ). Hanging ks x e n s) q h;
  bounded = subst (λ (x : List ℕ). Bounded w pts n ms ks e x (longest ks x e n) n bound) q b;
}
