-- Numbers that stand in a list, lists of pieces one after the other, two lists without repeats put together, and numbers taken upwards by a
-- test.
-- Assumes nothing.
use mathlib.Core.Path.{◌≡◌, refl, sym, ◌∙◌}
use mathlib.Core.Bool.{Bool, true}
use mathlib.Core.List.Memᴰ
use mathlib.Core.List.{List, [], ◌∷◌, ◌++◌, map}
use Prim.Native.Nat.{ℕ, zero, suc, ◌+◌}
use native.Mathlib.Omega.{arith}
use borrow.Author.Tests.{eqb-true, eqb-false, lt-ltb}
use lib.Dec.{eqb, ltb}
use Rattle.lists.specs.Member.{◌∈◌, here, there, Once}
use Rattle.lists.specs.Sorted.{Ascending}
use Rattle.lists.specs.Those.{those}
use Rattle.lists.specs.Total.{total}
use Rattle.lists.proofs.TestLaws.{by, differ, either}
use Rattle.lists.proofs.AnyLaws.{any-hit, any-miss, any-end}
use Rattle.lists.proofs.EachLaws.{Piece, of-each, in-each}
use Rattle.lists.proofs.OrderLaws.{number-order}
use Rattle.lists.proofs.SortedLaws.{ascending-once}
use Rattle.lists.proofs.ThoseLaws.{those-hit, those-miss, those-none, of-those}
use Rattle.lent.specs.Entries.{flat}
use Rattle.forest.specs.Edges.{from}
use Rattle.forest.proofs.EdgeLaws.{of-from}
use Rattle.union.specs.Union.{listed}

-- Listed

pub in-listed : (k : ℕ) (l : List ℕ) → k ∈ l → listed k l ≡ true
unfolding listed
in-listed k [] m = elim m [ ]
in-listed k (y ∷ l) m =
    by (eqb k y)
    (λ e. any-hit (eqb k) (y ∷ l) y l refl e)
    (λ e.
    any-miss (eqb k) (y ∷ l) y l refl e
    ∙ in-listed k l (either (λ q. absurd (eqb-false k y e q)) (λ i. i) (Memᴰ.cases_cons m)))

pub of-listed : (k : ℕ) (l : List ℕ) → listed k l ≡ true → k ∈ l
unfolding listed
of-listed k [] h = differ h (any-end (eqb k) [] refl)
of-listed k (y ∷ l) h =
    by (eqb k y)
    (λ e. here (eqb-true k y e))
    (λ e. there (of-listed k l (sym (any-miss (eqb k) (y ∷ l) y l refl e) ∙ h)))

-- Pieces

module _ {A B : Type 0} (piece : A → List B) where
  pub in-flat : (l : List A) {a : A} {b : B} → a ∈ l → b ∈ piece a → b ∈ flat piece l
  unfolding flat
  in-flat l m i = in-each piece (flat piece) refl (λ a k. refl) l m i

  pub of-flat : (l : List A) {b : B} → b ∈ flat piece l → Piece piece l b
  unfolding flat
  of-flat l m = of-each piece (flat piece) refl (λ a k. refl) l m

total-append : {B : Type 0} (f : B → ℕ) (l m : List B) → total (map f (l ++ m)) ≡ total (map f l) + total (map f m)
unfolding total
total-append f [] m = omega arith
total-append f (x ∷ l) m = omega (arith, total-append f l m)

-- the sum over all pieces is the sum of their sums
pub total-flat : {A B : Type 0} (f : B → ℕ) (piece : A → List B) (l : List A) →
    total (map f (flat piece l)) ≡ total (map (λ a. total (map f (piece a))) l)
unfolding flat total
total-flat f piece [] = refl
total-flat f piece (a ∷ l) = omega (arith, total-append f (piece a) (flat piece l), total-flat f piece l)

-- Without repeats

pub once_join : {A : Type 0} (l m : List A) → Once l → Once m → ((x : A) → x ∈ l → x ∈ m → ⊥) → Once (l ++ m)
once_join [] m o p h = p
once_join (x ∷ l) m o p h =
    (λ i. either o.0 (λ k. h x (here refl) k) (Memᴰ.append_cases l i), once_join l m o.1 p (λ y i k. h y (there i) k))

-- Ascending numbers

-- numbers one after the other ascend, and so do those that pass a test
from-ascending : (k n : ℕ) → Ascending ltb (from k n)
unfolding from
from-ascending k zero = tt
from-ascending k (suc n) = (λ j m. lt-ltb k j (omega (arith, (of-from (suc k) n j m).0)), from-ascending (suc k) n)

those-ascending : (f : ℕ → Bool) (l : List ℕ) → Ascending ltb l → Ascending ltb (those f l)
those-ascending f [] h = rw (those-none f) tt
those-ascending f (x ∷ l) h =
    by (f x)
    (λ e. rw (those-hit f x l e) (λ j m. h.0 j (of-those f l m).0, those-ascending f l h.1))
    (λ e. rw (those-miss f x l e) (those-ascending f l h.1))

module _ (f : ℕ → Bool) (n : ℕ) where
  pub picked-ascending : Ascending ltb (those f (from 0 n))
  picked-ascending = those-ascending f (from 0 n) (from-ascending 0 n)

  pub picked-once : Once (those f (from 0 n))
  picked-once = ascending-once ltb number-order (those f (from 0 n)) picked-ascending
