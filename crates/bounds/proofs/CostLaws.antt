-- The table of costs holds what each edge costs.
-- Assumes nothing.
use mathlib.Core.Path.{◌≡◌, refl, ◌∙◌}
use mathlib.Core.List.{List}
use Prim.Native.Nat.{ℕ, zero, suc, ◌+◌, ◌≤◌, ◌<◌}
use native.Mathlib.Omega.{arith}
use lib.Dec.{ltb}
use lib.IntN.{ℤ}
use lib.ListN.{length, get_or, set, length-set, replicate}
use borrow.Author.Tests.{ltb-true, ltb-false}
use Rattle.lists.specs.Turns.{turns}
use Rattle.lists.proofs.TestLaws.{by}
use Rattle.plane.specs.declared.Weights.{Weights}
use Rattle.tree.specs.Table.{tree_bound}
use Rattle.tree.specs.Places.{key_cost}
use Rattle.tree.proofs.SumLaws.{other, here}
use Rattle.longest.specs.Longest.{edge_cost, measure, costs}
use Rattle.longest.proofs.HungLaws.{same_length}

measured-at : (w : Weights) (pts : List ℤ) (ks : List ℕ) (c i : ℕ) (el : List ℕ) (j : ℕ) → i + c ≤ length el → i ≤ j → j < i + c →
    get_or (turns (measure w pts ks) i c el) j 0 ≡ edge_cost w pts ks j
unfolding turns measure
measured-at w pts ks zero i el j b h l = absurd (let z : ⊥ = omega arith in z)
measured-at w pts ks (suc c) i el j b h l =
    let x = edge_cost w pts ks i in
    by (ltb i j)
    (λ t. measured-at w pts ks c (suc i) (set el i x) j (rw (length-set el i x) (omega arith)) (ltb-true i j t) (omega arith))
    (λ t.
    let q : j ≡ i = omega (arith, ltb-false i j t) in
    before c (suc i) (set el i x) j (omega arith) ∙ rw q (here el i x (omega arith)))
  where
    before : (c i : ℕ) (el : List ℕ) (j : ℕ) → j < i → get_or (turns (measure w pts ks) i c el) j 0 ≡ get_or el j 0
    before zero i el j h = refl
    before (suc c) i el j h = before c (suc i) (set el i (edge_cost w pts ks i)) j (omega arith)
        ∙ other el i j (edge_cost w pts ks i) (λ q. let z : ⊥ = omega arith in z)

pub cost-at : (w : Weights) (pts : List ℤ) (ks : List ℕ) (e j : ℕ) → e ≤ tree_bound → j < e
    → get_or (costs w pts ks e) j 0 ≡ key_cost w pts (get_or ks j 0)
unfolding costs edge_cost
cost-at w pts ks e j few h = measured-at w pts ks e 0 (replicate tree_bound 0) j (rw (same_length tree_bound 0) (omega arith)) (omega arith)
    (omega arith)
