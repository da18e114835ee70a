-- The entries that pass a test: what stands among them, how they split a list, and how many they are for a stricter test.
-- Assumes nothing.
use mathlib.Core.Path.{◌≡◌, refl, ap, ◌∙◌}
use mathlib.Core.Bool.{Bool, true, false, not}
use mathlib.Core.List.Memᴰ
use mathlib.Core.List.{List, [], ◌∷◌, map}
use Prim.Native.Nat.{◌+◌, ◌≤◌, ◌<◌}
use native.Mathlib.Omega.{arith}
use lib.ListN.{length}
use Rattle.lists.specs.Member.{◌∈◌, here, there, Once}
use Rattle.lists.specs.Those.{those}
use Rattle.lists.proofs.TestLaws.{by, differ, either}

module _ {A : Type 0} (f : A → Bool) where
  pub those-hit : (x : A) (l : List A) → f x ≡ true → those f (x ∷ l) ≡ x ∷ those f l
  unfolding those
  those-hit x l e = rw (those, e) refl

  pub those-miss : (x : A) (l : List A) → f x ≡ false → those f (x ∷ l) ≡ those f l
  unfolding those
  those-miss x l e = rw (those, e) refl

  pub those-none : those f [] ≡ []
  unfolding those
  those-none = refl

  pub in-those : (l : List A) {x : A} → x ∈ l → f x ≡ true → x ∈ those f l
  in-those [] {x = x} m e = elim m [ ]
  in-those (y ∷ l) {x} m e =
      by (f y)
      (λ h. rw (those-hit y l h) (either (λ k. here k) (λ i. there (in-those l i e)) (Memᴰ.cases_cons m)))
      (λ h. rw (those-miss y l h) (either (λ k. differ e (rw k h)) (λ i. in-those l i e) (Memᴰ.cases_cons m)))

  pub of-those : (l : List A) {x : A} → x ∈ those f l → (x ∈ l) × (f x ≡ true)
  of-those [] m = elim (rw those-none at m) [ ]
  of-those (y ∷ l) {x} m =
      by (f y)
      (λ h. either (λ k. (here k, rw k h)) (λ i. further (of-those l i)) (Memᴰ.cases_cons (rw (those-hit y l h) at m)))
      (λ h. further (of-those l (rw (those-miss y l h) at m)))
    where
      further : (x ∈ l) × (f x ≡ true) → (x ∈ (y ∷ l)) × (f x ≡ true)
      further r = (there r.0, r.1)

  pub those-all : (l : List A) → ((x : A) → x ∈ l → f x ≡ true) → those f l ≡ l
  those-all [] h = those-none
  those-all (x ∷ l) h =
      those-hit x l (h x (here refl)) ∙ ap (λ (k : List A). x ∷ k) (those-all l (λ y m. h y (there m)))

  pub those-once : (l : List A) → Once l → Once (those f l)
  those-once [] o = rw those-none tt
  those-once (x ∷ l) o =
      by (f x)
      (λ h. rw (those-hit x l h) (λ m. o.0 (of-those l m).0, those-once l o.1))
      (λ h. rw (those-miss x l h) (those-once l o.1))

  -- those that pass and those that do not make up the list
  pub those-split : (l : List A) → length (those f l) + length (those (λ x. not (f x)) l) ≡ length l
  unfolding those
  those-split [] = refl
  those-split (x ∷ l) =
      by (f x)
      (λ h. rw (those, h) (omega (arith, those-split l)))
      (λ h. rw (those, h) (omega (arith, those-split l)))

pub those-map : {A B : Type 0} (g : A → B) (f : B → Bool) (l : List A) → those f (map g l) ≡ map g (those (λ x. f (g x)) l)
unfolding those
those-map g f [] = refl
those-map g f (x ∷ l) =
    by (f (g x))
    (λ h. rw (those, h) (ap (λ (k : List _). g x ∷ k) (those-map g f l)))
    (λ h. rw (those, h) (those-map g f l))

-- a test that lets fewer pass
module _ {A : Type 0} (f g : A → Bool) where
  pub those-le : (l : List A) → ((x : A) → x ∈ l → f x ≡ true → g x ≡ true) → length (those f l) ≤ length (those g l)
  unfolding those
  those-le [] h = omega arith
  those-le (x ∷ l) h =
      let ih = those-le l (λ y m. h y (there m)) in
      by (f x)
      (λ e. rw (those, e, h x (here refl) e) (omega arith))
      (λ e. by (g x) (λ d. rw (those, e, d) (omega arith)) (λ d. rw (those, e, d) (omega arith)))

  pub those-lt :
      (l : List A) → ((x : A) → x ∈ l → f x ≡ true → g x ≡ true) →
      (y : A) → y ∈ l → f y ≡ false → g y ≡ true → length (those f l) < length (those g l)
  unfolding those
  those-lt [] h y m e d = elim m [ ]
  those-lt (x ∷ l) h y m e d =
      let le = those-le l (λ z i. h z (there i)) in
      either
      (λ k. rw (those, rw k at e, rw k at d) (omega arith))
      (λ i. let lt = those-lt l (λ z j. h z (there j)) y i e d in
      by (f x)
      (λ p. rw (those, p, h x (here refl) p) (omega arith))
      (λ p. by (g x) (λ q. rw (those, p, q) (omega arith)) (λ q. rw (those, p, q) (omega arith))))
      (Memᴰ.cases_cons m)
