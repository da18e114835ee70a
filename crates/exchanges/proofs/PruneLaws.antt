-- Laws of pruning.
-- Assumes nothing.
use mathlib.Core.Path.{◌≡◌, refl, sym, ◌∙◌}
use mathlib.Core.List.{List}
use Prim.Native.Nat.{ℕ, zero, suc, ◌+◌, ◌-◌, ◌<◌}
use native.Mathlib.Omega.{arith}
use lib.ListN.{get_or, set, replicate}
use borrow.Author.Tests.{eq-eqb, ne_eqb}
use lib.IntN.{ℤ}
use Rattle.plane.specs.declared.Place.{Place}
use Rattle.exchanges.specs.Exchange.{closed}
use Rattle.exchanges.specs.Prune.{count_ends, first_loose, loose_edge, prune, mark, marks, pruned}
use Rattle.tree.specs.Table.{Low, Row, first_end, tree_bound, row, second_end, tree}
use Rattle.lists.specs.Turns.{seek, turns}
use Rattle.tree.proofs.LowLaws.{low-more, low_step}

pub low_count : (n m : ℕ) (ks : List ℕ) (i : ℕ) (d e : List ℕ) → e ≡ count_ends ks i d → Low n d → n + 2 ≡ m → Low m e
unfolding count_ends
low_count n m ks i d e q l h = rw q (low-more (n + 1 + 1) m _ (omega arith) (low_step (n + 1) _ _ (low_step n d _ l)))

pub count-is : (ks : List ℕ) (i : ℕ) (d : List ℕ) → (set (set d (first_end (get_or ks i 0)) (get_or d (first_end (get_or ks i 0)) 0 + 1))
    (second_end (get_or ks i 0)) (get_or (set d (first_end (get_or ks i 0)) (get_or d (first_end (get_or ks i 0)) 0 + 1))
    (second_end (get_or ks i 0)) 0 + 1)) ≡ count_ends ks i d
unfolding count_ends
count-is ks i d = refl

pub first-loose-is : (pin ks d : List ℕ) (e r : ℕ) → d ≡ turns (count_ends ks) 0 e (replicate tree_bound 0) → r
    ≡ seek (loose_edge pin d ks) 0 e
    → r ≡ first_loose pin ks e
unfolding first_loose
first-loose-is pin ks d e r p q = rw p at q

pub prune-done : (pin ks : List ℕ) (f : ℕ) (all : Row) → prune pin ks f ≡ all → first_loose pin ks f ≡ f → row ks f ≡ all
unfolding prune
prune-done pin ks zero all h e = h
prune-done pin ks (suc f) all h e = sym (rw (prune, eq-eqb _ _ e) refl) ∙ h

pub prune-more : (pin ks : List ℕ) (f i : ℕ) (all : Row) → prune pin ks f ≡ all → i ≡ first_loose pin ks f → i < f → (ls : List ℕ)
    → ls ≡ closed i (f - 1) ks → prune pin ls (f - 1) ≡ all
unfolding prune
prune-more pin ks zero i all h e l ls p = absurd (let z : ⊥ = omega arith in z)
prune-more pin ks (suc f) i all h e l ls p =
    let n : first_loose pin ks (suc f) ≡ suc f → ⊥ = λ q. let z : ⊥ = omega arith in z in
    let k : suc f - 1 ≡ f = omega arith in
    rw (p, e, k) (sym (rw (prune, ne_eqb _ _ n) refl) ∙ h)

pub pruned-is : (pins : List Place) (pts : List ℤ) (n : ℕ) (ks : List ℕ) (e : ℕ) (pin : List ℕ) (r : Row)
    → pin ≡ turns (mark pins pts) 0 n (replicate tree_bound 0) → r ≡ prune pin ks e → r ≡ (pruned pins (tree pts n ks e)).edges
unfolding pruned marks
pruned-is pins pts n ks e pin r f g = rw f at g
