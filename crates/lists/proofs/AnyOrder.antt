-- A search finds the same in every order of the list; for a search of pairs the test must not care which entry comes first.
-- Assumes nothing.
use mathlib.Core.Path.{◌≡◌, refl, sym, ap, ap₂, ◌∙◌}
use mathlib.Core.Bool.{Bool, true, false, ◌||◌, or_comm, or_assoc, Bool-set}
use mathlib.Core.List.{List, [], ◌∷◌, Perm, Permᴰ}
use mathlib.Core.Logic.{∥∥₁_elim}
use Prim.Native.Nat.{ℕ, suc}
use native.Mathlib.Nat.{ℕ_set}
use lib.ListN.{length}
use Rattle.lists.specs.Any.{any, any_two}
use Rattle.lists.proofs.TestLaws.{or_swap}

module _ {A : Type 0} (f : A → Bool) where
  any-swapped : {xs ys : List A} → Permᴰ xs ys → any f xs ≡ any f ys
  unfolding any
  any-swapped Permᴰ.nil = refl
  any-swapped (Permᴰ.cons e d) = ap₂ (λ (x : A) (r : Bool). f x || r) e (any-swapped d)
  any-swapped (Permᴰ.swap {a = x} {b = y} {a' = y'} {b' = x'} {l = l} e d) =
      ap₂ (λ (u v : A). f u || (f v || any f l)) e d ∙ or_swap (f x') (f y') (any f l)
  any-swapped (Permᴰ.trans d e) = any-swapped d ∙ any-swapped e

  pub any-perm : (xs ys : List A) → Perm xs ys → any f xs ≡ any f ys
  any-perm xs ys p = ∥∥₁_elim p (Bool-set (any f xs) (any f ys)) any-swapped

or-exchange : (p q r s : Bool) → ((p || q) || (r || s)) ≡ ((p || r) || (q || s))
or-exchange true q r s = refl
or-exchange false true true s = refl
or-exchange false true false s = refl
or-exchange false false r s = refl

module _ {A : Type 0} (f : A → A → Bool) (either_way : (x y : A) → f x y ≡ f y x) where
  two-swapped : {xs ys : List A} → Permᴰ xs ys → any_two f xs ≡ any_two f ys
  unfolding any any_two
  two-swapped Permᴰ.nil = refl
  two-swapped (Permᴰ.cons {a = x} {b = y} {l₁ = xs} {l₂ = ys} e d) =
      ap₂ ◌||◌ (ap (λ (z : A). any (f z) xs) e ∙ any-swapped (f y) d) (two-swapped d)
  two-swapped (Permᴰ.swap {a = x} {b = y} {a' = y'} {b' = x'} {l = l} e d) =
      ap₂ (λ (u v : A). (f u v || any (f u) l) || (any (f v) l || any_two f l)) e d
      ∙ ap (λ (t : Bool). (t || any (f x') l) || (any (f y') l || any_two f l)) (either_way x' y')
      ∙ or-exchange (f y' x') (any (f x') l) (any (f y') l) (any_two f l)
  two-swapped (Permᴰ.trans d e) = two-swapped d ∙ two-swapped e

  pub two-perm : (xs ys : List A) → Perm xs ys → any_two f xs ≡ any_two f ys
  two-perm xs ys p = ∥∥₁_elim p (Bool-set (any_two f xs) (any_two f ys)) two-swapped

-- the length, as the machine counts it
module _ {A : Type 0} where
  length-swapped : {xs ys : List A} → Permᴰ xs ys → length xs ≡ length ys
  length-swapped Permᴰ.nil = refl
  length-swapped (Permᴰ.cons e d) = ap suc (length-swapped d)
  length-swapped (Permᴰ.swap e d) = refl
  length-swapped (Permᴰ.trans d e) = length-swapped d ∙ length-swapped e

  pub length-perm : (xs ys : List A) → Perm xs ys → length xs ≡ length ys
  length-perm xs ys p = ∥∥₁_elim p (ℕ_set (length xs) (length ys)) length-swapped
