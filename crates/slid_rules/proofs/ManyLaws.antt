-- How many entries are such, counted by a test.
-- Assumes nothing.
use mathlib.Core.Path.{◌≡◌, refl, ap, ◌∙◌}
use mathlib.Core.Bool.{Bool, true, false}
use mathlib.Core.Logic.{◌⊎◌, inl, inr, ◌↔◌}
use mathlib.Core.List.{List, [], ◌∷◌}
use Prim.Native.Nat.{ℕ, suc}
use lib.ListN.{length}
use Rattle.lists.specs.Member.{◌∈◌, here, there}
use Rattle.lists.specs.Those.{those}
use Rattle.lists.proofs.TestLaws.{by, differ, either}
use Rattle.lists.proofs.ThoseLaws.{those-hit, those-miss, those-none}
use Rattle.slid_rules.specs.Many.{Many}

module _ {A : Type 0} (f : A → Bool) (P : A → Type 0) where
  pub many : (l : List A) → ((x : A) → x ∈ l → (f x ≡ true) ↔ P x) → Many P l (length (those f l))
  many [] h = rw (those-none f) refl
  many (x ∷ l) h =
      let rest = many l (λ y m. h y (there m)) in
      by (f x)
      (λ e. rw (those-hit f x l e) (inl ((h x (here refl)).0 e, (length (those f l), (rest, refl)))))
      (λ e. rw (those-miss f x l e) (inr (λ p. differ ((h x (here refl)).1 p) e, rest)))

  pub counted : (l : List A) → ((x : A) → x ∈ l → (f x ≡ true) ↔ P x) → (n : ℕ) → Many P l n → n ≡ length (those f l)
  counted [] h n m = rw (those-none f) m
  counted (x ∷ l) h n (inl (p, (k, (m, e)))) =
      rw (those-hit f x l ((h x (here refl)).1 p)) (e ∙ ap suc (counted l (λ y i. h y (there i)) k m))
  counted (x ∷ l) h n (inr (un, m)) =
      by (f x)
      (λ e. absurd (un ((h x (here refl)).0 e)))
      (λ e. rw (those-miss f x l e) (counted l (λ y i. h y (there i)) n m))

-- the same number of another property that says the same
pub many-same : {A : Type 0} (P Q : A → Type 0) (l : List A) → ((x : A) → P x ↔ Q x) → (n : ℕ) → Many P l n → Many Q l n
many-same P Q [] h n m = m
many-same P Q (x ∷ l) h n (inl (p, (k, (m, e)))) = inl ((h x).0 p, (k, (many-same P Q l h k m, e)))
many-same P Q (x ∷ l) h n (inr (un, m)) = inr (λ q. un ((h x).1 q), many-same P Q l h n m)
