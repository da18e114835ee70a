-- Finding the points before among those of now, one place after the other.
-- Assumes nothing.
use mathlib.Core.Bool.{false}
use mathlib.Core.Path.{◌≡◌, refl, sym, ap, ◌∙◌, subst}
use mathlib.Core.List.{List}
use Prim.Native.Nat.{ℕ, ◌+◌, ◌≤◌, ◌<◌}
use native.Mathlib.Omega.{arith}
use lib.Dec.{ltb, eqb}
use lib.IntN.{ℤ}
use lib.ListN.{length, get_or, set, length-set}
use borrow.Author.Tests.{ltb-true, ltb-false, eqb-true, eqb-false}
use Rattle.std.specs.Prelude.{Option, None, Some}
use Rattle.std.specs.Option.{is_some, unwrap_or}
use Rattle.lists.proofs.TestLaws.{by, differ}
use Rattle.plane.specs.Flat.{place_at}
use Rattle.tree.specs.Table.{tree_bound, Small}
use Rattle.tree.proofs.SumLaws.{other, here as put-here}
use Rattle.longest.proofs.LongestLaws.{small-set}
use Rattle.bounds.specs.Carried.{Numbered}

last : {C : Type 0} (k i : ℕ) → k < i + 1 → (k ≡ i → C) → (k < i → C) → C
last k i b f d = by (ltb k i) (λ t. d (ltb-true k i t)) (λ t. f (omega (arith, b, ltb-false k i t)))

-- i points before are found among the first j of now
pub record Finding (old : List ℤ) (m : ℕ) (pts : List ℤ) (n fresh i j : ℕ) (at : List ℕ) : Type 0 where
  pub room : length at ≡ tree_bound
  pub small : Small tree_bound at
  pub few : (i ≤ m) × (j ≤ n)
  pub low : (k : ℕ) → k < i → get_or at k 0 < n
  pub same : (k : ℕ) → k < i → place_at pts (get_or at k 0) ≡ place_at old k
  pub known : (l : ℕ) → l < j → (l ≡ fresh → ⊥) → (k : ℕ) × ((k < i) × (get_or at k 0 ≡ l))

pub no-fresh : (o : Option ℕ) (n : ℕ) → is_some o ≡ false → n ≤ unwrap_or o n
no-fresh None n e = omega arith
no-fresh (Some x) n e = differ refl e

module _ (old : List ℤ) (m : ℕ) (pts : List ℤ) (n : ℕ) (few : n ≤ tree_bound) (fewer : m ≤ tree_bound) where
  module _ (fresh i j : ℕ) (at : List ℕ) (g : Finding old m pts n fresh i j at) (h : j < n) where
    -- the next point before stands there
    pub finding-next : i < m → place_at pts j ≡ place_at old i → Finding old m pts n fresh (i + 1) (j + 1) (set at i j)
    finding-next l q =
        let at' = set at i j in
        let here : get_or at' i 0 ≡ j = put-here at i j (rw g.room (omega (arith, l, fewer))) in
        let old-at : (k : ℕ) → k < i → get_or at' k 0 ≡ get_or at k 0 = λ k b. other at i k j (λ t. let z : ⊥ = omega (arith, t, b) in z) in
        record {
          room = length-set at i j ∙ g.room;
          small = small-set tree_bound at i j (omega (arith, h, few)) g.small;
          few = (omega (arith, l), omega (arith, h));
          low = λ k b. last k i b (λ t. omega (arith, ap (λ (x : ℕ). get_or at' x 0) t, here, h))
              (λ t. omega (arith, old-at k t, g.low k t));
          same = λ k b. last k i b
              (λ t. subst (λ (x : ℕ). place_at pts (get_or at' x 0) ≡ place_at old x) (sym t) (ap (place_at pts) here ∙ q))
              (λ t. ap (place_at pts) (old-at k t) ∙ g.same k t);
          known = λ x b d.
              by (eqb x j) (λ t. (i, (omega arith, here ∙ sym (eqb-true x j t))))
              (λ t.
              let e = eqb-false x j t in
              let r = g.known x (omega (arith, b, e)) d in
              (r.0, (omega (arith, r.1.0), old-at r.0 r.1.0 ∙ r.1.1)));
        }

    -- it does not: the further point
    pub finding-fresh : n ≤ fresh → Finding old m pts n j i (j + 1) at
    finding-fresh l = record {
      room = g.room;
      small = g.small;
      few = (g.few.0, omega (arith, h));
      low = g.low;
      same = g.same;
      known = λ x b d.
          g.known x (omega (arith, b, d)) (λ t. let z : ⊥ = omega (arith, t, b, d, h, l) in z);
    }

  pub finding-end : (fresh i j : ℕ) (at : List ℕ) → Finding old m pts n fresh i j at → n ≤ j → i ≡ m → Numbered old m pts n fresh at
  finding-end fresh i j at g h q = record {
    low = λ k l. g.low k (omega (arith, l, q));
    same = λ k l. g.same k (omega (arith, l, q));
    known = λ l b d. let r = g.known l (omega (arith, b, h)) d in (r.0, (omega (arith, r.1.0, q), r.1.1));
  }
