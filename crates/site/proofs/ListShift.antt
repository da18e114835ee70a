-- Searches, sorting and labels under a map that keeps their tests.
-- Assumes nothing.
use mathlib.Core.Path.{◌≡◌, refl, sym, ap, ap₂, ◌∙◌}
use mathlib.Core.Bool.{Bool, true, false, ◌||◌}
use mathlib.Core.List.{List, [], ◌∷◌, map}
use Rattle.lists.specs.Any.{any, any_two}
use Rattle.lists.specs.Those.{those}
use Rattle.lists.specs.Sorted.{put, sorted}
use Rattle.lists.proofs.TestLaws.{by}
use Rattle.lists.proofs.ThoseLaws.{those-hit, those-miss}
use Rattle.joined.specs.Labels.{equal, renamed, merge, labels}

module _ {A B : Type 0} (f : A → B) where
  pub any-there : (p : A → Bool) (q : B → Bool) → ((x : A) → q (f x) ≡ p x) → (l : List A) → any q (map f l) ≡ any p l
  unfolding any
  any-there p q k [] = refl
  any-there p q k (x ∷ l) = ap₂ ◌||◌ (k x) (any-there p q k l)

  pub two-there : (p : A → A → Bool) (q : B → B → Bool) → ((x y : A) → q (f x) (f y) ≡ p x y) → (l : List A) →
      any_two q (map f l) ≡ any_two p l
  unfolding any_two
  two-there p q k [] = refl
  two-there p q k (x ∷ l) = ap₂ ◌||◌ (any-there (p x) (q (f x)) (k x) l) (two-there p q k l)

  pub those-there : (p : A → Bool) (q : B → Bool) → ((x : A) → q (f x) ≡ p x) → (l : List A) → those q (map f l) ≡ map f (those p l)
  unfolding those
  those-there p q k [] = refl
  those-there p q k (x ∷ l) =
      by (p x)
      (λ e. those-hit q (f x) (map f l) (k x ∙ e) ∙ ap (λ (r : List B). f x ∷ r) (those-there p q k l)
      ∙ ap (map f) (sym (those-hit p x l e)))
      (λ e. those-miss q (f x) (map f l) (k x ∙ e) ∙ those-there p q k l ∙ ap (map f) (sym (those-miss p x l e)))

  module _ (p : A → A → Bool) (q : B → B → Bool) (k : (x y : A) → q (f x) (f y) ≡ p x y) where
    pub put-there : (a : A) (l : List A) → put q (f a) (map f l) ≡ map f (put p a l)
    unfolding put
    put-there a [] = refl
    put-there a (b ∷ l) =
        by (p a b) (λ e. let u : q (f a) (f b) ≡ true = k a b ∙ e in rw (put, u, e) refl) λ e.
        let u : q (f a) (f b) ≡ false = k a b ∙ e in
        by (p b a)
        (λ g.
        let v : q (f b) (f a) ≡ true = k b a ∙ g in
        rw (put, u, v, e, g) (ap (λ (r : List B). f b ∷ r) (put-there a l)))
        (λ g. let v : q (f b) (f a) ≡ false = k b a ∙ g in rw (put, u, v, e, g) refl)

    pub sorted-there : (l : List A) → sorted q (map f l) ≡ map f (sorted p l)
    unfolding sorted
    sorted-there [] = refl
    sorted-there (a ∷ l) = ap (put q (f a)) (sorted-there l) ∙ put-there a (sorted p l)

-- Labels, where different points stay different
module _ {A B : Type 0} (same : Discrete A) (alike : Discrete B) (f : A → B) (only : (x y : A) → f x ≡ f y → x ≡ y) where
  pub equal-there : (x y : A) → equal alike (f x) (f y) ≡ equal same x y
  unfolding equal
  equal-there x y =
      elim (same x y) as (λ d. equal alike (f x) (f y) ≡ (elim d as (λ c. Bool) [ yes e ↦ true | no e ↦ false ])) [
        | yes e ↦ elim (alike (f x) (f y)) as (λ d. (elim d as (λ c. Bool) [ yes e ↦ true | no e ↦ false ]) ≡ true)
            [ yes g ↦ refl | no n ↦ absurd (n (ap f e)) ]
        | no n ↦ elim (alike (f x) (f y)) as (λ d. (elim d as (λ c. Bool) [ yes e ↦ true | no e ↦ false ]) ≡ false)
            [ yes g ↦ absurd (n (only x y g)) | no k ↦ refl ]
      ]

  renamed-there : (a b x : A) → renamed alike (f a) (f b) (f x) ≡ f (renamed same a b x)
  unfolding renamed
  renamed-there a b x =
      elim (same x b) as (λ d. renamed alike (f a) (f b) (f x) ≡ f (elim d as (λ c. A) [ yes e ↦ a | no e ↦ x ])) [
        | yes e ↦ elim (alike (f x) (f b)) as (λ d. (elim d as (λ c. B) [ yes e ↦ f a | no e ↦ f x ]) ≡ f a)
            [ yes g ↦ refl | no n ↦ absurd (n (ap f e)) ]
        | no n ↦ elim (alike (f x) (f b)) as (λ d. (elim d as (λ c. B) [ yes e ↦ f a | no e ↦ f x ]) ≡ f x)
            [ yes g ↦ absurd (n (only x b g)) | no k ↦ refl ]
      ]

  pub labels-there : (L : List (A × A)) (x : A) → labels alike (map (λ e. (f e.0, f e.1)) L) (f x) ≡ f (labels same L x)
  unfolding labels merge
  labels-there [] x = refl
  labels-there (e ∷ L) x =
      ap₂ (λ (a b : B). renamed alike a b (labels alike (map (λ d. (f d.0, f d.1)) L) (f x)))
      (labels-there L e.0) (labels-there L e.1)
      ∙ ap (renamed alike (f (labels same L e.0)) (f (labels same L e.1))) (labels-there L x)
      ∙ renamed-there (labels same L e.0) (labels same L e.1) (labels same L x)
