-- A list that is not empty has a least entry, by any relation that compares every two and is transitive: the lesser of the head and the
-- least of the rest.
-- Assumes nothing.
use mathlib.Core.Path.{◌≡◌, refl}
use mathlib.Core.Logic.{◌⊎◌, inl, inr}
use mathlib.Core.List.Memᴰ
use mathlib.Core.List.{List, [], ◌∷◌}
use Rattle.lists.specs.Member.{◌∈◌, here, there}
use Rattle.lists.specs.Least.{Least}
use Rattle.lists.proofs.TestLaws.{either}

module _ {A : Type 0} (le : A → A → Type 0) (compare : (a b : A) → le a b ⊎ le b a) (along : (a b c : A) → le a b → le b c → le a c) where
  itself : (x y : A) → y ≡ x → le x y
  itself x y e = rw e (either (λ h. h) (λ h. h) (compare x x))

  pub least : (l : List A) → Least le l ⊎ ((x : A) → x ∈ l → ⊥)
  least [] = inr (λ x m. elim m [ ])
  least (x ∷ l) = inl (at (least l))
    where
      at : Least le l ⊎ ((y : A) → y ∈ l → ⊥) → Least le (x ∷ l)
      at (inr n) =
          record { entry = x; stands = here refl; below = λ y m. either (itself x y) (λ i. absurd (n y i)) (Memᴰ.cases_cons m) }
      at (inl r) =
          either
          (λ h.
          record {
            entry = x;
            stands = here refl;
            below = λ y m. either (itself x y) (λ i. along x r.entry y h (r.below y i)) (Memᴰ.cases_cons m);
          })
          (λ h.
          record {
            entry = r.entry;
            stands = there r.stands;
            below = λ y m. either (λ e. rw e h) (r.below y) (Memᴰ.cases_cons m);
          })
          (compare x r.entry)
