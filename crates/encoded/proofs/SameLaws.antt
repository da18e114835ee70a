-- The comparison of two lists: what it says, and that it is the library's.
-- Assumes nothing.
use mathlib.Core.Path.{◌≡◌, refl, sym, ap, ap₂}
use mathlib.Core.Bool.{Bool, true, ◌&&◌}
use mathlib.Core.List.{List, [], ◌∷◌}
use Prim.Native.Nat.{ℕ}
use borrow.Author.Tests.{eqb-true, eq-eqb}
use lib.Dec.{eqb}
use lib.Pointwise.{pointwise}
use Rattle.lists.proofs.TestLaws.{and_left, and_right, differ}
use Rattle.encoded.specs.Same.{same_numbers}

pub same_true : (xs ys : List ℕ) → same_numbers xs ys ≡ true → xs ≡ ys
unfolding same_numbers
same_true [] [] e = refl
same_true [] (y ∷ ys) e = differ refl (sym e)
same_true (x ∷ xs) [] e = differ refl (sym e)
same_true (x ∷ xs) (y ∷ ys) e =
    ap₂ (λ (a : ℕ) (l : List ℕ). a ∷ l) (eqb-true x y (and_left (eqb x y) (same_numbers xs ys) e))
    (same_true xs ys (and_right (eqb x y) (same_numbers xs ys) e))

pub same_refl : (xs : List ℕ) → same_numbers xs xs ≡ true
unfolding same_numbers
same_refl [] = refl
same_refl (x ∷ xs) = rw (eq-eqb x x refl) (same_refl xs)

-- it is what the library's `==` of two slices says
pub same_as : (xs ys : List ℕ) → pointwise eqb xs ys ≡ same_numbers xs ys
unfolding same_numbers
same_as [] [] = refl
same_as [] (y ∷ ys) = refl
same_as (x ∷ xs) [] = refl
same_as (x ∷ xs) (y ∷ ys) = ap (λ (b : Bool). eqb x y && b) (same_as xs ys)
