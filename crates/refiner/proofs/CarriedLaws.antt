-- Where the entries of a table in order stand once a key is put in: those below the key stay, the others move on by one.
-- Assumes nothing.
use mathlib.Core.Path.{◌≡◌, refl, sym, ap, ◌∙◌}
use mathlib.Core.List.{List}
use Prim.Native.Nat.{ℕ, zero, suc, ◌+◌, ◌≤◌, ◌<◌}
use native.Mathlib.Omega.{arith}
use lib.Dec.{ltb}
use lib.ListN.{length, get_or, set, length-set}
use borrow.Author.Tests.{ltb-true, ltb-false, lt-ltb, le-ltb}
use Rattle.lists.proofs.TestLaws.{by, differ}
use Rattle.tree.proofs.SumLaws.{other, here}
use Rattle.lists.specs.Turns.{seek}
use Rattle.exchanges.specs.Exchange.{bump, carrying}
use Rattle.refiner.specs.Graft.{not_below, key_rank}
use Rattle.exchanges.proofs.ExchangeLaws.{bump-lt, bump-ge}
use Rattle.exchanges.proofs.ExchangeSums.{carrying-low}
use Rattle.exchanges.proofs.OpenedLaws.{seek-before, seek_hit}

-- the entries from i on, n of them, rise
abbrev Rises : List ℕ → ℕ → ℕ → Type 0
Rises xs i n = (j k : ℕ) → i ≤ j → j < k → k < i + n → get_or xs j 0 < get_or xs k 0

-- a number in hand that is below the next entry is put there
carry-first : (n i q : ℕ) (xs : List ℕ) → i + n < length xs → (0 < n → q < get_or xs i 0) → get_or (carrying i n q xs) i 0 ≡ q
unfolding carrying
carry-first zero i q xs room h = here xs i q (omega arith)
carry-first (suc n) i q xs room h =
    rw (carrying, lt-ltb q (get_or xs i 0) (h (omega arith)))
    (carrying-low n (suc i) (get_or xs i 0) (set xs i q) i (omega arith) ∙ here xs i q (omega arith))

-- where the entry k stands then
abbrev At : ℕ → ℕ → ℕ → List ℕ → ℕ → Type 0
At n i q xs k =
    (get_or xs k 0 < q → get_or (carrying i n q xs) k 0 ≡ get_or xs k 0) × (q ≤ get_or xs k 0 → get_or (carrying i n q xs) (suc k) 0 ≡ get_or xs k 0)

module _ (n i q : ℕ) (xs : List ℕ) (room : i + suc n < length xs) (r : Rises xs i (suc n)) where
  past : (j : ℕ) → i < j → get_or (set xs i q) j 0 ≡ get_or xs j 0
  past j m = other xs i j q (λ e. let z : ⊥ = omega arith in z)

  above : (j : ℕ) → i < j → j < i + suc n → get_or xs i 0 < get_or xs j 0
  above j m o = r i j (omega arith) m o

  rises : Rises (set xs i q) (suc i) n
  rises a b m o p = omega (arith, r a b (omega arith) o (omega arith), past a (omega arith), past b (omega arith))

  module _ (k : ℕ) (h : i ≤ k) (l : k < i + suc n) where
    swapped : q < get_or xs i 0 → (i < k → At n (suc i) (get_or xs i 0) (set xs i q) k) → At (suc n) i q xs k
    unfolding carrying
    swapped t ih =
        rw (carrying, lt-ltb q (get_or xs i 0) t)
        (by (ltb i k)
        (λ b.
        let m : i < k = ltb-true i k b in (
          λ e. absurd (let z : ⊥ = omega (arith, e, t, above k m l) in z),
          λ e. (ih m).1 (omega (arith, above k m l, past k m)) ∙ past k m,
        ))
        (λ b.
        let e : k ≡ i = omega (arith, ltb-false i k b) in (
          λ o. absurd (let p : get_or xs i 0 < q = rw e at o in let z : ⊥ = omega (arith, p, t) in z),
          λ o.
              rw e (carry-first n (suc i) (get_or xs i 0) (set xs i q) (rw (length-set xs i q) (omega arith))
              (λ p. omega (arith, above (suc i) (omega arith) (omega arith), past (suc i) (omega arith)))),
        )))

    stayed : get_or xs i 0 ≤ q → (i < k → At n (suc i) q xs k) → At (suc n) i q xs k
    unfolding carrying
    stayed t ih =
        rw (carrying, le-ltb q (get_or xs i 0) t)
        (by (ltb i k) (λ b. ih (ltb-true i k b))
        (λ b.
        let e : k ≡ i = omega (arith, ltb-false i k b) in (
          λ o. rw e (carrying-low n (suc i) q xs i (omega arith)),
          λ o.
              let p : q ≤ get_or xs i 0 = rw e at o in
              let same : q ≡ get_or xs i 0 = omega (arith, p, t) in
              rw e (carry-first n (suc i) q xs (omega arith) (λ p. omega (arith, same, above (suc i) (omega arith) (omega arith))) ∙ same),
        )))

carry-at : (n i q : ℕ) (xs : List ℕ) → i + n < length xs → Rises xs i n → (k : ℕ) → i ≤ k → k < i + n → At n i q xs k
carry-at zero i q xs room r k h l = absurd (let z : ⊥ = omega arith in z)
carry-at (suc n) i q xs room r k h l =
    by (ltb q (get_or xs i 0))
    (λ t.
    swapped n i q xs room r k h l (ltb-true _ _ t) (λ m.
    carry-at n (suc i) (get_or xs i 0) (set xs i q) (rw (length-set xs i q) (omega arith)) (rises n i q xs room r) k m (omega arith)))
    (λ t.
    stayed n i q xs room r k h l (ltb-false _ _ t) (λ m.
    carry-at n (suc i) q xs (omega arith) (λ c d v w x. r c d (omega arith) w (omega arith)) k m (omega arith)))

-- Counted by the keys below it

module _ (xs : List ℕ) (e q : ℕ) (room : e < length xs) (rising : (j k : ℕ) → j < k → k < e → get_or xs j 0 < get_or xs k 0) where
  below-rank : (k : ℕ) → k < key_rank xs e q → get_or xs k 0 < q
  unfolding key_rank not_below
  below-rank k h =
      by (ltb (get_or xs k 0) q) (λ t. ltb-true _ _ t)
      (λ t. differ (rw t refl) (seek-before (not_below xs q) e 0 k (omega arith) h))

  above-rank : (k : ℕ) → key_rank xs e q ≤ k → k < e → q ≤ get_or xs k 0
  unfolding key_rank not_below
  above-rank k h l =
      let i = seek (not_below xs q) 0 e in
      let at : q ≤ get_or xs i 0 = by (ltb (get_or xs i 0) q)
      (λ t. differ (seek_hit (not_below xs q) e 0 (omega arith)) (rw t refl)) (λ t. ltb-false _ _ t) in
      by (ltb i k) (λ t. omega (arith, at, rising i k (ltb-true i k t) l))
      (λ t. let j : k ≡ i = omega (arith, ltb-false i k t) in rw j at)

  -- the key i is then at the number that it has moved on to
  pub carried-at : (k : ℕ) → k < e → get_or (carrying 0 e q xs) (bump (key_rank xs e q) k) 0 ≡ get_or xs k 0
  carried-at k h =
      let z : 0 + e ≡ e = omega arith in
      let r = carry-at e 0 q xs (omega arith) (λ c d v w x. rising c d w (omega arith)) k (omega arith) (omega arith) in
      by (ltb k (key_rank xs e q))
      (λ t.
      let m : k < key_rank xs e q = ltb-true _ _ t in
      ap (λ (j : ℕ). get_or (carrying 0 e q xs) j 0) (sym (bump-lt (key_rank xs e q) k m)) ∙ r.0 (below-rank k m))
      (λ t.
      let m : key_rank xs e q ≤ k = ltb-false _ _ t in
      let j : k + 1 ≡ suc k = omega arith in
      ap (λ (j : ℕ). get_or (carrying 0 e q xs) j 0) (sym (bump-ge (key_rank xs e q) k m) ∙ j) ∙ r.1 (above-rank k m h))
