-- Tables of a search: entries stay small.
-- Assumes nothing.
use mathlib.Core.List.{List}
use Prim.Native.Nat.{ℕ, zero, suc, ◌-◌, ◌≤◌, ◌<◌}
use native.Mathlib.Omega.{arith}
use lib.ListN.{get_or, replicate}
use Rattle.longest.specs.Longest.{Reach, no_edge, pass, reached, longest, start}
use Rattle.tree.specs.Table.{Small, pair_bound, tree_bound}
use Rattle.lists.specs.Turns.{turns}
use Rattle.longest.proofs.LongestLaws.{small-attach}
use Rattle.lists.proofs.TurnLaws.{turns-keep, turns-below}

small-replicate : (b n x i : ℕ) → x < b → 0 < b → get_or (replicate n x) i 0 < b
small-replicate b zero x i h z = z
small-replicate b (suc n) x zero h z = h
small-replicate b (suc n) x (suc i) h z = small-replicate b n x i h z

pub small_all : (b n x : ℕ) → x < b → 0 < b → Small b (replicate n x)
small_all b n x h z = record { small = λ i. small-replicate b n x i h z }

pub small-longest : (keys el : List ℕ) (e n : ℕ) → e ≤ tree_bound → Small tree_bound (longest keys el e n)
unfolding longest reached pass start
small-longest keys el e n h =
    turns-keep (λ (_ : ℕ) (r : Reach). turns (pass keys el n) 0 e r) (λ r. Small tree_bound r.top) e 0 start
    (λ _ r k. turns-below (pass keys el n) (λ r. Small tree_bound r.top) tree_bound (λ j r b k. small-attach el n _ _ j r b k) e 0 r
    (omega arith) k) (small_all tree_bound pair_bound no_edge (omega arith) (omega arith))
