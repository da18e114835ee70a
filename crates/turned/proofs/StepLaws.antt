-- A state that goes through the numbers below n: one number more, and the end of a loop. A run of the same numbers with one more.
-- Assumes nothing.
use mathlib.Core.Path.{◌≡◌, refl, sym, ap, ◌∙◌}
use mathlib.Core.Bool.{Bool, true, false, ◌||◌}
use mathlib.Core.List.{[], ◌∷◌, ◌++◌}
use Prim.Native.Nat.{ℕ, zero, suc, ◌+◌, ◌≤◌, ◌<◌}
use native.Mathlib.Omega.{arith}
use native.Mathlib.Numerals.{add-one}
use borrow.Author.Tests.{ltb-true, ltb-false}
use lib.Dec.{ltb}
use Rattle.lists.proofs.TestLaws.{by}
use Rattle.straight.specs.Table.{run}
use Rattle.turned.specs.Steps.{up_to}

module _ {S : Type 0} (f : ℕ → S → S) where
  pub up_start : (s : S) → s ≡ up_to f 0 s
  unfolding up_to
  up_start s = refl

  pub up_next : (k : ℕ) (s t u : S) → t ≡ up_to f k s → u ≡ f k t → u ≡ up_to f (k + 1) s
  unfolding up_to
  up_next k s t u h e = rw (add-one k) (e ∙ ap (f k) h)

  pub up-end : (k n : ℕ) (s t : S) → t ≡ up_to f k s → k ≤ n → n ≤ k → t ≡ up_to f n s
  up-end k n s t h l g = let e : k ≡ n = omega arith in h ∙ ap (λ (j : ℕ). up_to f j s) e

-- A test of the numbers below n: none passes so far, and one does

module _ (f : ℕ → Bool) where
  abbrev pub or_next : ℕ → Bool → Bool
  or_next j t = t || f j

  pub none_next : (k : ℕ) → false ≡ up_to or_next k false → f k ≡ false → false ≡ up_to or_next (k + 1) false
  unfolding up_to
  none_next k h e = rw (add-one k, ← h) (sym e)

  pub some_passes : (k n : ℕ) → k < n → f k ≡ true → true ≡ up_to or_next n false
  unfolding up_to
  some_passes k zero l e = absurd (let z : ⊥ = omega arith in z)
  some_passes k (suc n) l e =
      by (ltb k n)
      (λ g. rw (← some_passes k n (ltb-true k n g) e) refl)
      (λ g.
      let i : k ≡ n = omega (arith, ltb-false k n g) in
      let here : f n ≡ true = ap f (sym i) ∙ e in
      by (up_to or_next n false) (λ h. rw h refl) (λ h. rw (h, here) refl))

-- A run with one more at its end

pub run-last : {A : Type 0} (f : ℕ → A) (n i : ℕ) → run f i (suc n) ≡ run f i n ++ (f (i + n) ∷ [])
unfolding run
run-last f zero i = let z : i ≡ i + 0 = omega arith in ap (λ (j : ℕ). f j ∷ []) z
run-last f (suc n) i =
    let z : suc i + n ≡ i + suc n = omega arith in
    ap (λ l. f i ∷ l) (run-last f n (suc i) ∙ ap (λ (j : ℕ). run f (suc i) n ++ (f j ∷ [])) z)

-- the first n with one more
pub run_more : {A : Type 0} (f : ℕ → A) (n : ℕ) → run f 0 (suc n) ≡ run f 0 n ++ (f n ∷ [])
run_more f n = let z : 0 + n ≡ n = omega arith in run-last f n 0 ∙ ap (λ (j : ℕ). run f 0 n ++ (f j ∷ [])) z
