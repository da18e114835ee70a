-- Among the entries that pass a test one is least, or none passes: the least of those that pass.
-- Assumes nothing.
use mathlib.Core.Path.{◌≡◌}
use mathlib.Core.Bool.{Bool, true}
use mathlib.Core.Logic.{◌⊎◌, inl, inr}
use mathlib.Core.List.{List}
use Rattle.lists.specs.Member.{◌∈◌}
use Rattle.lists.specs.Those.{those}
use Rattle.lists.proofs.TestLaws.{either}
use Rattle.lists.proofs.ThoseLaws.{in-those, of-those}
use Rattle.lists.proofs.LeastLaws.{least}

pub record LeastOf {A : Type 0} (ok : A → Bool) (le : A → A → Type 0) (l : List A) : Type 0 where
  pub entry : A
  pub stands : entry ∈ l
  pub passes : ok entry ≡ true
  pub below : (y : A) → y ∈ l → ok y ≡ true → le entry y

module _ {A : Type 0} (le : A → A → Type 0) (compare : (a b : A) → le a b ⊎ le b a) (along : (a b c : A) → le a b → le b c → le a c) where
  pub least-of : (ok : A → Bool) (l : List A) → LeastOf ok le l ⊎ ((y : A) → y ∈ l → ok y ≡ true → ⊥)
  least-of ok l =
      either
      (λ r.
      let s = of-those ok l r.stands in
      inl (record { entry = r.entry; stands = s.0; passes = s.1; below = λ y i e. r.below y (in-those ok l i e) }))
      (λ n. inr (λ y i e. n y (in-those ok l i e)))
      (least le compare along (those ok l))
