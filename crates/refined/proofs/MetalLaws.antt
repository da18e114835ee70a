-- Metal: what the refiner's sum is at weights of 1, and never more than what the edges cost.
-- Assumes nothing.
use mathlib.Core.Path.{◌≡◌, refl, sym, ap₂, ◌∙◌}
use mathlib.Core.List.{List, [], ◌∷◌}
use Prim.Native.Nat.{ℕ, ◌+◌, ◌≤◌}
use native.Mathlib.Omega.{arith}
use lib.IntN.{ℤ}
use Rattle.lists.specs.Total.{total as sum}
use Rattle.plane.specs.declared.Place.{Place}
use Rattle.plane.specs.declared.Weights.{Weights}
use Rattle.plane.specs.Cost.{cost, plain, Positive}
use Rattle.plane.proofs.CostLaws.{cost-plain, distance-cost}
use Rattle.joined.specs.Cost.{lengths}
use Rattle.tree.specs.Edges.{table_edges}
use Rattle.tree.proofs.EdgeLaws.{edges-total}
use Rattle.refiner.specs.Refined.{total}
use Rattle.refiner.proofs.RoundSound.{total_of}
use Rattle.refined.specs.Metal.{metal}

-- with weights 1 and 1 costs are lengths
pub length-plain : (es : List (Place × Place)) → lengths (cost plain) es ≡ metal es
unfolding lengths sum
length-plain [] = refl
length-plain (e ∷ es) = ap₂ ◌+◌ (cost-plain e.0 e.1) (length-plain es)

-- so the refiner's sum with these weights is metal
pub total-plain : (pts : List ℤ) (ks : List ℕ) (e : ℕ) → total plain pts ks e ≡ metal (table_edges pts ks e)
total-plain pts ks e = total_of plain pts 0 ks e ∙ sym (edges-total pts ks plain e) ∙ length-plain (table_edges pts ks e)

-- no weight is below 1
pub metal-low : (w : Weights) → Positive w → (es : List (Place × Place)) → metal es ≤ lengths (cost w) es
unfolding lengths sum
metal-low w p [] = omega arith
metal-low w p (e ∷ es) = omega (arith, distance-cost w p e.0 e.1, metal-low w p es)
