-- Light and heavy items: the laws of the entries that pass a test, at the test of a weight; and a rising list turned round falls.
-- Assumes nothing.
use mathlib.Core.Path.{◌≡◌, refl, ap, ◌∙◌}
use mathlib.Core.Bool.{not}
use mathlib.Core.List.Memᴰ
use mathlib.Core.List.{List, [], ◌∷◌, map, reverse, reverse_aux}
use Prim.Native.Nat.{ℕ, ◌+◌, ◌≤◌, ◌<◌}
use borrow.Author.Tests.{ltb-false, lt-ltb, le-ltb}
use lib.Dec.{ltb}
use lib.ListN.{length, length-map}
use Rattle.lists.specs.Member.{◌∈◌, here, there}
use Rattle.lists.specs.Those.{those}
use Rattle.lists.specs.Total.{above}
use Rattle.lists.proofs.TestLaws.{either, not-true}
use Rattle.lists.proofs.ThoseLaws.{those-miss, those-none, in-those, of-those, those-all, those-split, those-map}
use Rattle.joined.specs.Light.{Rising, Falling, heavy, light}

module _ {B : Type 0} (weight : B → ℕ) (t : ℕ) where
  pub of-light : (L : List B) {d : B} → d ∈ light weight t L → (d ∈ L) × (weight d ≤ t)
  unfolding light
  of-light L {d} m =
      let r = of-those (λ e. not (ltb t (weight e))) L m in
      (r.0, ltb-false t (weight d) (not-true (ltb t (weight d)) r.1))

  pub in-light : (L : List B) {d : B} → d ∈ L → weight d ≤ t → d ∈ light weight t L
  unfolding light
  in-light L {d} m h = in-those (λ e. not (ltb t (weight e))) L m (ap not (le-ltb t (weight d) h))

  pub in-heavy : (L : List B) {d : B} → d ∈ L → t < weight d → d ∈ heavy weight t L
  unfolding heavy
  in-heavy L {d} m h = in-those (λ e. ltb t (weight e)) L m (lt-ltb t (weight d) h)

  pub light-all : (L : List B) → ((d : B) → d ∈ L → weight d ≤ t) → light weight t L ≡ L
  unfolding light
  light-all L h = those-all (λ e. not (ltb t (weight e))) L (λ d m. ap not (le-ltb t (weight d) (h d m)))

  pub light-miss : (e : B) (L : List B) → t < weight e → light weight t (e ∷ L) ≡ light weight t L
  unfolding light
  light-miss e L h = those-miss (λ d. not (ltb t (weight d))) e L (ap not (lt-ltb t (weight e) h))

  pub light-none : light weight t [] ≡ []
  unfolding light
  light-none = those-none (λ d. not (ltb t (weight d)))

  pub length-split : (L : List B) → length (heavy weight t L) + length (light weight t L) ≡ length L
  unfolding heavy light
  length-split L = those-split (λ e. ltb t (weight e)) L

  -- the numbers above t among the weights
  pub length-heavy : (L : List B) → above t (map weight L) ≡ length (heavy weight t L)
  unfolding above heavy
  length-heavy L = ap length (those-map weight (ltb t) L) ∙ length-map (those (λ e. ltb t (weight e)) L) weight

-- A list turned round

module _ {B : Type 0} (weight : B → ℕ) where
  falling-turned : (L M : List B) → Rising weight L → Falling weight M → ((c d : B) → c ∈ M → d ∈ L → weight c ≤ weight d) →
      Falling weight (reverse_aux L M)
  falling-turned [] M u v h = v
  falling-turned (e ∷ L) M u v h =
      falling-turned L (e ∷ M) u.1 (λ d m. h d e m (here refl), v)
      (λ c d m i. either (λ k. rw k (u.0 d i)) (λ k. h c d k (there i)) (Memᴰ.cases_cons m))

  pub falling-reverse : (L : List B) → Rising weight L → Falling weight (reverse L)
  falling-reverse L u = falling-turned L [] u tt (λ c d m i. elim m [ ])
