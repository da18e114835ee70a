-- All points of a tree are reached, also of one with a single point; so its rows can be filled.
-- Assumes nothing.
use mathlib.Core.Path.{◌≡◌}
use mathlib.Core.List.{List}
use Prim.Native.Nat.{ℕ, zero, suc, ◌≤◌, ◌<◌}
use native.Mathlib.Omega.{arith}
use lib.IntN.{ℤ}
use lib.ListN.{get_or}
use Rattle.plane.specs.Rank.{InOrder}
use Rattle.joined.specs.Tree as joined
use Rattle.tree.specs.Table.{tree_bound, Within}
use Rattle.tree.specs.Places.{points_of, edges_of}
use Rattle.longest.specs.Longest.{no_edge, reached, start}
use Rattle.refiner.proofs.AloneLaws.{alone}
use Rattle.refiner.proofs.ReachedLaws.{last-seen}

pub tree-reaches : (pts : List ℤ) (n : ℕ) (ks : List ℕ) (e : ℕ) (el : List ℕ) → InOrder pts n → n ≤ tree_bound → e < tree_bound →
    get_or el no_edge 0 ≡ 0 → Within n ks → joined.TreeOn (points_of pts n) (edges_of pts ks e) → (v : ℕ) → v < n →
    get_or (reached ks el e n start).seen v 0 ≡ 1
tree-reaches pts n ks zero el o few fewer none w whole v h =
    last-seen pts n ks zero el o few fewer none (λ i j c d l m f g. absurd (let z : ⊥ = omega (arith, l) in z)) w whole v h
tree-reaches pts n ks (suc e) el o few fewer none w whole v h =
    last-seen pts n ks (suc e) el o few fewer none (alone pts n ks e whole) w whole v h
