-- Entries of a listing are the values below its length.
-- Assumes nothing.
use mathlib.Core.Path.{◌≡◌, refl, sym, ap}
use mathlib.Core.List.Memᴰ
use Prim.Native.Nat.{ℕ, zero, suc, ◌+◌, ◌<◌}
use native.Mathlib.Omega.{arith}
use lib.Dec.{ltb}
use lib.ListN.{length}
use borrow.Author.Tests.{ltb-true, ltb-false}
use Rattle.lists.specs.Member.{◌∈◌, here, there, Once}
use Rattle.lists.proofs.TestLaws.{by, either}
use Rattle.joined.specs.Cost.{lengths}
use Rattle.lists.specs.Total.{total}
use Rattle.tree.specs.Sum.{below}
use Rattle.tree.specs.Places.{listing}

module _ {A : Type 0} (f : ℕ → A) where
  pub listing-length : (n : ℕ) → length (listing f n) ≡ n
  unfolding listing
  listing-length zero = refl
  listing-length (suc n) = ap suc (listing-length n)

  pub in-listing : (n i : ℕ) → i < n → f i ∈ listing f n
  unfolding listing
  in-listing zero i h = absurd (let z : ⊥ = omega arith in z)
  in-listing (suc n) i h =
      by (ltb i n) (λ t. there (in-listing n i (ltb-true i n t)))
      (λ t. let e : i ≡ n = omega (arith, ltb-false i n t) in here (ap f e))

  pub of-listing : (n : ℕ) (x : A) → x ∈ listing f n → (i : ℕ) × ((i < n) × (x ≡ f i))
  unfolding listing
  of-listing zero x m = elim m [ ]
  of-listing (suc n) x m = either (λ e. (n, (omega arith, e))) (λ i. more (of-listing n x i)) (Memᴰ.cases_cons m)
    where
      more : (i : ℕ) × ((i < n) × (x ≡ f i)) → (i : ℕ) × ((i < suc n) × (x ≡ f i))
      more r = (r.0, (omega (arith, r.1.0), r.1.1))

  pub listing-once : (n : ℕ) → ((i j : ℕ) → i < j → j < n → f i ≡ f j → ⊥) → Once (listing f n)
  unfolding listing
  listing-once zero h = tt
  listing-once (suc n) h = (λ m. again (of-listing n (f n) m), listing-once n (λ i j l k. h i j l (omega arith)))
    where
      again : (i : ℕ) × ((i < n) × (f n ≡ f i)) → ⊥
      again r = h r.0 n r.1.0 (omega arith) (sym r.1.1)

pub listing-lengths : {A : Type 0} (d : A → A → ℕ) (f : ℕ → A × A) (n : ℕ) → lengths d (listing f n) ≡ below (λ i. d (f i).0 (f i).1) n
unfolding listing lengths total below
listing-lengths d f zero = refl
listing-lengths d f (suc n) = ap (λ (s : ℕ). d (f n).0 (f n).1 + s) (listing-lengths d f n)
