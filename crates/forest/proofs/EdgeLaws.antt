-- Numbers and entries read one after the other, tables filled upwards, and bounds that a store keeps.
-- Assumes nothing.
use mathlib.Core.Path.{◌≡◌, refl, sym, ap, ◌∙◌}
use mathlib.Core.List.Memᴰ
use mathlib.Core.List.{List, [], ◌∷◌}
use Prim.Native.Nat.{ℕ, zero, suc, ◌+◌, ◌-◌, ◌≤◌, ◌<◌}
use native.Mathlib.Omega.{arith}
use native.Mathlib.Numerals.{add-one}
use borrow.Author.Tests.{eqb-true, eqb-false, ltb-true, ltb-false}
use lib.Dec.{eqb, ltb}
use lib.ListN.{length, get_or, set, replicate, length-set}
use lib.Seq.{get_or-set_same, get_or-set_other}
use Rattle.lists.specs.Member.{◌∈◌, here, there}
use Rattle.lists.proofs.TestLaws.{by, either}
use Rattle.forest.specs.Edges.{from, entries, filled, Below}

-- what is left of n numbers, one at a time
module _ (k n : ℕ) where
  pub one_less : k < n → n - k ≡ suc (n - (k + 1))
  one_less h = omega arith

  pub none_left : n ≤ k → n - k ≡ 0
  none_left h = omega arith

  pub from_next : k < n → from k (n - k) ≡ k ∷ from (k + 1) (n - (k + 1))
  unfolding from
  from_next h = rw (one_less h, add-one k) refl

  pub from-end : n ≤ k → from k (n - k) ≡ []
  unfolding from
  from-end h = rw (none_left h) refl

  pub entries_next : (xs : List ℕ) → k < n → entries xs k (n - k) ≡ get_or xs k 0 ∷ entries xs (k + 1) (n - (k + 1))
  unfolding entries
  entries_next xs h = rw (one_less h, add-one k) refl

  pub entries-end : (xs : List ℕ) → n ≤ k → entries xs k (n - k) ≡ []
  unfolding entries
  entries-end xs h = rw (none_left h) refl

pub all_left : (n : ℕ) → n - 0 ≡ n
all_left n = omega arith

pub length_from : (k n : ℕ) → length (from k n) ≡ n
unfolding from
length_from k zero = refl
length_from k (suc n) = ap suc (length_from (suc k) n)

pub get_d-from : (k n j : ℕ) → j < n → get_or (from k n) j 0 ≡ k + j
unfolding from
get_d-from k zero j h = absurd (let z : ⊥ = omega arith in z)
get_d-from k (suc n) zero h = omega arith
get_d-from k (suc n) (suc j) h = omega (arith, get_d-from (suc k) n j (omega arith))

pub of-from : (k n j : ℕ) → j ∈ from k n → (k ≤ j) × (j < k + n)
unfolding from
of-from k zero j m = elim m [ ]
of-from k (suc n) j m =
    either (λ e. (omega arith, omega arith)) (λ i. let r = of-from (suc k) n j i in (omega arith, omega arith)) (Memᴰ.cases_cons m)

pub below-from : (n j : ℕ) → j ∈ from 0 n → j < n
below-from n j m = omega (arith, (of-from 0 n j m).1)

pub in-from : (k n j : ℕ) → k ≤ j → j < k + n → j ∈ from k n
unfolding from
in-from k zero j h i = absurd (let z : ⊥ = omega arith in z)
in-from k (suc n) j h i =
    by (eqb j k)
    (λ e. here (eqb-true j k e))
    (λ e. let d = eqb-false j k e in there (in-from (suc k) n j (omega (arith, d)) (omega arith)))

-- Tables filled upwards

-- one more store
pub fill_more : (f : ℕ → ℕ) (i n x : ℕ) (xs all : List ℕ) → filled f i (n - i) xs ≡ all → i < n → x ≡ f i →
    filled f (i + 1) (n - (i + 1)) (set xs i x) ≡ all
unfolding filled
fill_more f i n x xs all p h e = rw (e, add-one i) (sym (rw (one_less i n h, add-one i) refl) ∙ p)

pub fill_end : (f : ℕ → ℕ) (i n : ℕ) (xs all : List ℕ) → filled f i (n - i) xs ≡ all → n ≤ i → xs ≡ all
unfolding filled
fill_end f i n xs all p h = sym (rw (none_left i n h) refl) ∙ p

pub fill-all : (f : ℕ → ℕ) (n : ℕ) (xs : List ℕ) → filled f 0 (n - 0) xs ≡ filled f 0 n xs
fill-all f n xs = ap (λ (m : ℕ). filled f 0 m xs) (all_left n)

pub length-filled : (f : ℕ → ℕ) (i n : ℕ) (xs : List ℕ) → length (filled f i n xs) ≡ length xs
unfolding filled
length-filled f i zero xs = refl
length-filled f i (suc n) xs = length-filled f (suc i) n (set xs i (f i)) ∙ length-set xs i (f i)

filled-before : (f : ℕ → ℕ) (i n : ℕ) (xs : List ℕ) (k : ℕ) → k < i → get_or (filled f i n xs) k 0 ≡ get_or xs k 0
unfolding filled
filled-before f i zero xs k h = refl
filled-before f i (suc n) xs k h =
    filled-before f (suc i) n (set xs i (f i)) k (omega arith) ∙ get_or-set_other xs i k (f i) 0 (λ e. omega arith)

filled-past : (f : ℕ → ℕ) (i n : ℕ) (xs : List ℕ) (k : ℕ) → i + n ≤ k → get_or (filled f i n xs) k 0 ≡ get_or xs k 0
unfolding filled
filled-past f i zero xs k h = refl
filled-past f i (suc n) xs k h =
    filled-past f (suc i) n (set xs i (f i)) k (omega arith) ∙ get_or-set_other xs i k (f i) 0 (λ e. omega arith)

filled_at : (f : ℕ → ℕ) (i n : ℕ) (xs : List ℕ) (j : ℕ) → i + n ≤ length xs → i ≤ j → j < i + n → get_or (filled f i n xs) j 0 ≡ f j
unfolding filled
filled_at f i zero xs j r h k = absurd (let z : ⊥ = omega arith in z)
filled_at f i (suc n) xs j r h k =
    by (ltb i j)
    (λ e. filled_at f (suc i) n (set xs i (f i)) j (omega (arith, length-set xs i (f i))) (omega (arith, ltb-true i j e)) (omega arith))
    (λ e.
    let q : j ≡ i = omega (arith, ltb-false i j e) in
    rw q (filled-before f (suc i) n (set xs i (f i)) i (omega arith) ∙ get_or-set_same xs i (f i) 0 (omega arith)))

module _ (f : ℕ → ℕ) (n : ℕ) (xs : List ℕ) (j : ℕ) where
  pub filled-here : n ≤ length xs → j < n → get_or (filled f 0 n xs) j 0 ≡ f j
  filled-here r h = filled_at f 0 n xs j (omega arith) (omega arith) (omega arith)

  pub filled-beyond : n ≤ j → get_or (filled f 0 n xs) j 0 ≡ get_or xs j 0
  filled-beyond h = filled-past f 0 n xs j (omega arith)

-- Bounds of all entries, the default past the end included

pub below_set : (n : ℕ) (xs : List ℕ) (v x : ℕ) → x < n → Below n xs → Below n (set xs v x)
below_set n xs v x h s = record { below = at xs v s.below }
  where
    at : (ys : List ℕ) (u : ℕ) → ((i : ℕ) → get_or ys i 0 < n) → (i : ℕ) → get_or (set ys u x) i 0 < n
    at [] u l i = l i
    at (y ∷ ys) zero l zero = h
    at (y ∷ ys) zero l (suc i) = l (suc i)
    at (y ∷ ys) (suc u) l zero = l zero
    at (y ∷ ys) (suc u) l (suc i) = at ys u (λ j. l (suc j)) i

pub below-replicate : (b n x : ℕ) → x < b → Below b (replicate n x)
below-replicate b n x h = record { below = at n }
  where
    at : (m i : ℕ) → get_or (replicate m x) i 0 < b
    at zero i = omega arith
    at (suc m) zero = h
    at (suc m) (suc i) = at m i

pub below-filled : (b : ℕ) (f : ℕ → ℕ) (i n m : ℕ) (xs : List ℕ) → i + n ≤ m → ((k : ℕ) → k < m → f k < b) → Below b xs →
    Below b (filled f i n xs)
unfolding filled
below-filled b f i zero m xs l h s = s
below-filled b f i (suc n) m xs l h s = below-filled b f (suc i) n m (set xs i (f i)) (omega arith) h
    (below_set b xs i (f i) (h i (omega arith)) s)
