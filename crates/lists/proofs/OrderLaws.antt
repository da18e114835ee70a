-- Orders: that of numbers, and that of pairs by two orders of their parts. A pair comes before another by its first part, or with equal
-- first parts by its second; the laws go by these two cases.
-- Assumes nothing.
use mathlib.Core.Path.{◌≡◌, refl, sym, ap₂, ◌∙◌}
use mathlib.Core.Bool.{Bool, true, false}
use mathlib.Core.Logic.{◌⊎◌, inl, inr}
use native.Mathlib.Omega.{arith}
use borrow.Author.Tests.{ltb-true, ltb-false, lt-ltb, le-ltb}
use lib.Dec.{ltb}
use Rattle.lists.specs.Sorted.{Order, first_then}
use Rattle.lists.proofs.TestLaws.{by, differ}

pub number-order : Order ltb
number-order = record {
  never = λ a. le-ltb a a (omega arith);
  along = λ a b c e f. lt-ltb a c (omega (arith, ltb-true a b e, ltb-true b c f));
  tie = λ a b e f. omega (arith, ltb-false a b e, ltb-false b a f);
}

module _ {A B : Type 0} (p : A → A → Bool) (q : B → B → Bool) (first : Order p) (second : Order q) where
  abbrev Cases : A × B → A × B → Type 0
  Cases x y = (p x.0 y.0 ≡ true) ⊎ ((x.0 ≡ y.0) × (q x.1 y.1 ≡ true))

  of_pair : (x y : A × B) → first_then p q x y ≡ true → Cases x y
  unfolding first_then
  of_pair x y h =
      by (p x.0 y.0) inl
      (λ e. by (p y.0 x.0)
      (λ f. differ (rw (first_then, e, f) at h) refl)
      (λ f. inr (first.tie x.0 y.0 e f, rw (first_then, e, f) at h)))

  in_pair : (x y : A × B) → Cases x y → first_then p q x y ≡ true
  unfolding first_then
  in_pair x y (inl e) = rw (first_then, e) refl
  in_pair x y (inr h) =
      let e : p x.0 y.0 ≡ false = rw h.0 (first.never y.0) in
      let f : p y.0 x.0 ≡ false = rw h.0 (first.never y.0) in
      rw (first_then, e, f) h.1

  along : (x y z : A × B) → Cases x y → Cases y z → Cases x z
  along x y z (inl e) (inl f) = inl (first.along x.0 y.0 z.0 e f)
  along x y z (inl e) (inr f) = inl (rw (sym f.0) e)
  along x y z (inr e) (inl f) = inl (rw e.0 f)
  along x y z (inr e) (inr f) = inr (e.0 ∙ f.0, second.along x.1 y.1 z.1 e.1 f.1)

  never : (x : A × B) → first_then p q x x ≡ false
  unfolding first_then
  never x =
      let e : p x.0 x.0 ≡ false = first.never x.0 in
      rw (first_then, e, e) (second.never x.1)

  tie : (x y : A × B) → first_then p q x y ≡ false → first_then p q y x ≡ false → x ≡ y
  unfolding first_then
  tie x y h k =
      by (p x.0 y.0) (λ e. differ (rw (first_then, e) refl) h)
      (λ e. by (p y.0 x.0) (λ f. differ (rw (first_then, f) refl) k)
      (λ f.
      ap₂ (λ (a : A) (b : B). (a, b)) (first.tie x.0 y.0 e f)
      (second.tie x.1 y.1 (rw (first_then, e, f) at h) (rw (first_then, f, e) at k))))

  pub pair-order : Order (first_then p q)
  pair-order = record { never = never; along = λ x y z e f. in_pair x z (along x y z (of_pair x y e) (of_pair y z f)); tie = tie }
