-- Tests taken apart and put together: a case split on a test's value, and the two connectives.
-- Assumes nothing.
use mathlib.Core.Path.{◌≡◌, refl, sym, ◌∙◌}
use mathlib.Core.Bool.{Bool, true, false, not, ◌&&◌, ◌||◌}
use mathlib.Core.Logic.{◌⊎◌, inl, inr}
use Prim.Native.Nat.{ℕ}
use native.Mathlib.Omega.{arith}

-- by cases of a test, with its value in each
pub by {ℓ} : {C : Type ℓ} (t : Bool) → (t ≡ true → C) → (t ≡ false → C) → C
by true f g = f refl
by false f g = g refl

-- a test has one value
pub differ {ℓ} : {C : Type ℓ} {t : Bool} → t ≡ true → t ≡ false → C
differ e f = absurd (let z : true ≡ false = sym e ∙ f in let n : ◌≡◌ {A = ℕ} 0 1 = cc in let b : ⊥ = omega arith in b)

pub either {ℓ κ μ} : {A : Type ℓ} {B : Type κ} {C : Type μ} → (A → C) → (B → C) → A ⊎ B → C
either f g (inl a) = f a
either f g (inr b) = g b

pub not-true : (p : Bool) → not p ≡ true → p ≡ false
not-true true e = sym e
not-true false e = refl

pub and_left : (p q : Bool) → (p && q) ≡ true → p ≡ true
and_left true q e = refl
and_left false q e = e

pub and_right : (p q : Bool) → (p && q) ≡ true → q ≡ true
and_right true q e = e
and_right false q e = differ e refl

pub and_both : (p q : Bool) → p ≡ true → q ≡ true → (p && q) ≡ true
and_both p q e f = rw (e, f) refl

pub or-none : (p q : Bool) → (p || q) ≡ false → (p ≡ false) × (q ≡ false)
or-none true q e = differ refl e
or-none false q e = (refl, e)

pub or-neither : (p q : Bool) → p ≡ false → q ≡ false → (p || q) ≡ false
or-neither p q e f = rw (e, f) refl

pub or_swap : (p q r : Bool) → (p || (q || r)) ≡ (q || (p || r))
or_swap true true r = refl
or_swap true false r = refl
or_swap false q r = refl

-- where one test implies another, the negation of the other implies that of the one
pub contrapose : (p q : Bool) → (p ≡ true → q ≡ true) → q ≡ false → p ≡ false
contrapose true q i e = differ (i refl) e
contrapose false q i e = refl
