-- Sums over numbers and over the entries of a table, and which entries a table has.
-- Assumes nothing.
use mathlib.Core.Path.{◌≡◌, refl, ap, ap₂}
use mathlib.Core.Bool.{true, false}
use mathlib.Core.List.{List, [], ◌∷◌}
use Prim.Native.Nat.{ℕ, zero, suc, ◌+◌, ◌≤◌, ◌<◌}
use native.Mathlib.Omega.{arith}
use lib.Dec.{ltb, eqb}
use lib.ListN.{length, get_or, set}
use borrow.Author.Tests.{ltb-true, ltb-false, eqb-true, eq-eqb, ne_eqb}
use Rattle.lists.proofs.TestLaws.{by}
use Rattle.tree.specs.Sum.{below, sum_over}

-- Sums

pub below-same : (f g : ℕ → ℕ) (n : ℕ) → ((i : ℕ) → i < n → f i ≡ g i) → below f n ≡ below g n
unfolding below
below-same f g zero h = refl
below-same f g (suc n) h = ap₂ ◌+◌ (h n (omega arith)) (below-same f g n (λ i l. h i (omega arith)))

pub below_one : (n : ℕ) → below (λ _. 1) n ≡ n
unfolding below
below_one zero = refl
below_one (suc n) = omega (arith, below_one n)

pub below_at : (f : ℕ → ℕ) (n i : ℕ) → i < n → f i ≤ below f n
unfolding below
below_at f zero i h = absurd (let z : ⊥ = omega arith in z)
below_at f (suc n) i h = by (ltb i n) (λ t. omega (arith, below_at f n i (ltb-true i n t)))
    (λ t. at (let e : i ≡ n = omega (arith, ltb-false i n t) in e))
  where
    at : i ≡ n → f i ≤ f n + below f n
    at e = rw e (omega arith)

pub below-some : (f : ℕ → ℕ) (n : ℕ) → 0 < below f n → (i : ℕ) × ((i < n) × (0 < f i))
unfolding below
below-some f zero h = absurd (let z : ⊥ = omega arith in z)
below-some f (suc n) h = by (ltb 0 (f n)) (λ t. (n, (omega arith, ltb-true 0 (f n) t)))
    (λ t. further (below-some f n (omega (arith, ltb-false 0 (f n) t))))
  where
    further : (i : ℕ) × ((i < n) × (0 < f i)) → (i : ℕ) × ((i < suc n) × (0 < f i))
    further r = (r.0, (omega (arith, r.1.0), r.1.1))

-- the same from the front
unfoldable pub from : (ℕ → ℕ) → ℕ → ℕ → ℕ
from f i zero = 0
from f i (suc n) = f i + from f (suc i) n

from_last : (f : ℕ → ℕ) (n i : ℕ) → from f i (suc n) ≡ f (i + n) + from f i n
unfolding from
from_last f zero i = let z : i + 0 ≡ i = omega arith in rw z refl
from_last f (suc n) i =
    let z : suc i + n ≡ i + suc n = omega arith in
    let r : from f (suc i) (suc n) ≡ f (i + suc n) + from f (suc i) n = rw z at (from_last f n (suc i)) in
    omega (arith, r)

pub from-below : (f : ℕ → ℕ) (n : ℕ) → from f 0 n ≡ below f n
unfolding from below
from-below f zero = refl
from-below f (suc n) = let z : 0 + n ≡ n = omega arith in let r : from f 0 (suc n) ≡ f n + from f 0 n = rw z at (from_last f n 0) in omega
    (arith, r, from-below f n)

pub from-same : (f g : ℕ → ℕ) (n i : ℕ) → ((j : ℕ) → i ≤ j → f j ≡ g j) → from f i n ≡ from g i n
unfolding from
from-same f g zero i h = refl
from-same f g (suc n) i h = ap₂ ◌+◌ (h i (omega arith)) (from-same f g n (suc i) (λ j l. h j (omega arith)))

-- Entries

pub other : (xs : List ℕ) (i j x : ℕ) → (i ≡ j → ⊥) → get_or (set xs i x) j 0 ≡ get_or xs j 0
other [] i j x h = refl
other (y ∷ ys) zero zero x h = absurd (h refl)
other (y ∷ ys) zero (suc j) x h = refl
other (y ∷ ys) (suc i) zero x h = refl
other (y ∷ ys) (suc i) (suc j) x h = other ys i j x (λ e. h (ap suc e))

pub here : (xs : List ℕ) (i x : ℕ) → i < length xs → get_or (set xs i x) i 0 ≡ x
here [] i x h = absurd (let z : ⊥ = omega arith in z)
here (y ∷ ys) zero x h = refl
here (y ∷ ys) (suc i) x h = here ys i x (omega arith)

-- Which entries a table has

-- 1 at k, 0 elsewhere
unfoldable pub one : ℕ → ℕ → ℕ
one k j = elim (eqb j k) [ true ↦ 1 | false ↦ 0 ]

pub one_same : (k : ℕ) → one k k ≡ 1
unfolding one
one_same k = rw (one, eq-eqb k k refl) refl

pub one-some : (k j : ℕ) → 0 < one k j → j ≡ k
unfolding one
one-some k j h = by (eqb j k) (λ t. eqb-true j k t) (λ t. absurd (let z : 0 < 0 = rw (one, t) at h in let y : ⊥ = omega arith in y))

pub one-not : (k j : ℕ) → (j ≡ k → ⊥) → one k j ≡ 0
unfolding one
one-not k j n = rw (one, ne_eqb j k n) refl

pub in_table : (k : ℕ) (xs : List ℕ) (n : ℕ) → 0 < sum_over (one k) xs n → (i : ℕ) × ((i < n) × (get_or xs i 0 ≡ k))
in_table k xs n h = let r = below-some _ n h in (r.0, (r.1.0, one-some k (get_or xs r.0 0) r.1.1))

pub of-table : (xs : List ℕ) (n i : ℕ) → i < n → 0 < sum_over (one (get_or xs i 0)) xs n
of-table xs n i h = omega (arith, below_at (λ j. one (get_or xs i 0) (get_or xs j 0)) n i h, one_same (get_or xs i 0))
