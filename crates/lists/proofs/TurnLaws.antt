-- Laws of going through numbers.
-- Assumes nothing.
use mathlib.Core.Path.{◌≡◌, refl, sym, ap, ◌∙◌}
use mathlib.Core.Bool.{Bool, true, false}
use Prim.Native.Nat.{ℕ, zero, suc, ◌+◌, ◌-◌, ◌≤◌, ◌<◌}
use native.Mathlib.Omega.{arith}
use native.Mathlib.Numerals.{add-one}
use Rattle.lists.proofs.TestLaws.{by}
use Rattle.lists.specs.Turns.{seek, turns}

module _ {S : Type 0} (f : ℕ → S → S) where
  pub turns-none : (n : ℕ) (s : S) → turns f 0 (n - 0) s ≡ turns f 0 n s
  turns-none n s = ap (λ (k : ℕ). turns f 0 k s) (let z : n - 0 ≡ n = omega arith in z)

  pub turns_next : (i n : ℕ) (s t all : S) → turns f i (n - i) s ≡ all → i < n → t ≡ f i s → turns f (i + 1) (n - (i + 1)) t ≡ all
  unfolding turns
  turns_next i n s t all p h e =
      let k : n - i ≡ suc (n - (i + 1)) = omega arith in
      rw (e, add-one i) (sym (rw (k, add-one i) refl) ∙ p)

  pub turns-end : (i n : ℕ) (s all : S) → turns f i (n - i) s ≡ all → n ≤ i → s ≡ all
  unfolding turns
  turns-end i n s all p h =
      let k : n - i ≡ 0 = omega arith in
      sym (rw k refl) ∙ p

  -- turns that change nothing
  pub turns-still : (n i : ℕ) (s : S) → ((j : ℕ) → f j s ≡ s) → turns f i n s ≡ s
  unfolding turns
  turns-still zero i s h = refl
  turns-still (suc n) i s h = ap (turns f (suc i) n) (h i) ∙ turns-still n (suc i) s h

  -- what every turn keeps
  pub turns-keep : (P : S → Type 0) (n i : ℕ) (s : S) → ((j : ℕ) (t : S) → P t → P (f j t)) → P s → P (turns f i n s)
  unfolding turns
  turns-keep P zero i s h p = p
  turns-keep P (suc n) i s h p = turns-keep P n (suc i) (f i s) h (h i s p)

module _ {S : Type 0} (f : ℕ → S → S) (P : S → Type 0) (m : ℕ) (h : (j : ℕ) (t : S) → j < m → P t → P (f j t)) where
  pub turns-below : (n i : ℕ) (s : S) → i + n ≤ m → P s → P (turns f i n s)
  unfolding turns
  turns-below zero i s b p = p
  turns-below (suc n) i s b p = turns-below n (suc i) (f i s) (omega arith) (h i s (omega arith) p)

module _ (t : ℕ → Bool) where
  pub seek-none : (n : ℕ) → seek t 0 (n - 0) ≡ seek t 0 n
  seek-none n = ap (λ (k : ℕ). seek t 0 k) (let z : n - 0 ≡ n = omega arith in z)

  pub seek_stop : (i n r : ℕ) → seek t i (n - i) ≡ r → i < n → t i ≡ true → i ≡ r
  unfolding seek
  seek_stop i n r p h e =
      let k : n - i ≡ suc (n - (i + 1)) = omega arith in
      sym (rw (k, seek, e) refl) ∙ p

  pub seek-next : (i n r : ℕ) → seek t i (n - i) ≡ r → i < n → t i ≡ false → seek t (i + 1) (n - (i + 1)) ≡ r
  unfolding seek
  seek-next i n r p h e =
      let k : n - i ≡ suc (n - (i + 1)) = omega arith in
      rw (add-one i) (sym (rw (k, seek, e, add-one i) refl) ∙ p)

  pub seek-end : (i n r : ℕ) → seek t i (n - i) ≡ r → n ≤ i → i ≡ r
  unfolding seek
  seek-end i n r p h =
      let k : n - i ≡ 0 = omega arith in
      sym (rw k refl) ∙ p
