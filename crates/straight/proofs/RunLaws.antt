-- Values of a sequence from a number on: how many, which, what stands where, what is left after some of them.
-- Assumes nothing.
use mathlib.Core.Path.{◌≡◌, refl, ap, ap₂, ◌∙◌}
use mathlib.Core.Bool.{Bool, true}
use mathlib.Core.List.Memᴰ
use mathlib.Core.List.{List, [], ◌∷◌, map}
use Prim.Native.Nat.{ℕ, zero, suc, ◌+◌, ◌*◌, ◌-◌, ◌≤◌, ◌<◌}
use native.Mathlib.Omega.{arith}
use lib.Dec.{ltb}
use lib.IntN.{ℤ}
use lib.ListN.{length, get_or}
use borrow.Author.Tests.{ltb-true, ltb-false}
use Rattle.lists.specs.Member.{◌∈◌, here, there}
use Rattle.lists.specs.Sorted.{Ascending}
use Rattle.lists.proofs.TestLaws.{by, either}
use Rattle.lent.specs.Entries.{entries_from, entries}
use Rattle.plane.specs.Flat.{place_from}
use Rattle.straight.specs.Table.{run, points_in}

module _ {A : Type 0} (f : ℕ → A) where
  pub run_length : (n i : ℕ) → length (run f i n) ≡ n
  unfolding run
  run_length zero i = refl
  run_length (suc n) i = ap suc (run_length n (suc i))

  -- one value more at the front: a step of a scan
  pub run-next : (i n : ℕ) → i < n → run f i (n - i) ≡ f i ∷ run f (i + 1) (n - (i + 1))
  unfolding run
  run-next i n h =
      let e : n - i ≡ suc (n - (i + 1)) = omega arith in
      let k : suc i ≡ i + 1 = omega arith in
      ap (run f i) e ∙ ap (λ (j : ℕ). f i ∷ run f j (n - (i + 1))) k

  pub run_end : (i n : ℕ) → n ≤ i → run f i (n - i) ≡ []
  unfolding run
  run_end i n h = let e : n - i ≡ 0 = omega arith in ap (run f i) e

  -- which they are
  pub in-run : (n i j : ℕ) → i ≤ j → j < i + n → f j ∈ run f i n
  unfolding run
  in-run zero i j l h = absurd (let z : ⊥ = omega arith in z)
  in-run (suc n) i j l h =
      by (ltb i j) (λ t. there (in-run n (suc i) j (let z = ltb-true i j t in omega (arith, z)) (omega arith)))
      (λ t. let e : j ≡ i = omega (arith, ltb-false i j t) in here (ap f e))

  pub record Numbered (i n : ℕ) (x : A) : Type 0 where
    pub number : ℕ
    pub low : i ≤ number
    pub high : number < i + n
    pub is : x ≡ f number

  pub of-run : (n i : ℕ) (x : A) → x ∈ run f i n → Numbered i n x
  unfolding run
  of-run zero i x m = elim m [ ]
  of-run (suc n) i x m =
      either (λ e. record { number = i; low = omega arith; high = omega arith; is = e }) (λ k. further (of-run n (suc i) x k))
      (Memᴰ.cases_cons m)
    where
      further : Numbered (suc i) n x → Numbered i (suc n) x
      further r = record { number = r.number; low = omega (arith, r.low); high = omega (arith, r.high); is = r.is }

  -- what stands where
  pub run_at : (n i j : ℕ) (d : A) → j < n → get_or (run f i n) j d ≡ f (i + j)
  unfolding run
  run_at zero i j d h = absurd (let z : ⊥ = omega arith in z)
  run_at (suc n) i zero d h = let e : i ≡ i + 0 = omega arith in ap f e
  run_at (suc n) i (suc j) d h = let e : suc i + j ≡ i + suc j = omega arith in run_at n (suc i) j d (omega arith) ∙ ap f e

  -- a run that rises
  pub ascending-run : (before : A → A → Bool) (n i : ℕ) → Ascending before (run f i n)
      → (j k : ℕ) → i ≤ j → j < k → k < i + n → before (f j) (f k) ≡ true
  unfolding run
  ascending-run before zero i a j k l s u = absurd (let z : ⊥ = omega arith in z)
  ascending-run before (suc n) i a j k l s u =
      by (ltb i j) (λ t. ascending-run before n (suc i) a.1 j k (let z = ltb-true i j t in omega (arith, z)) s (omega arith))
      (λ t. let e : j ≡ i = omega (arith, ltb-false i j t) in rw e (a.0 (f k) (in-run n (suc i) k (omega (arith, e)) (omega arith))))

-- the values of two sequences, one through a function
module _ {A B : Type 0} (g : A → B) (f : ℕ → A) where
  pub run-map : (n i : ℕ) → map g (run f i n) ≡ run (λ j. g (f j)) i n
  unfolding run
  run-map zero i = refl
  run-map (suc n) i = ap (λ (l : List B). g (f i) ∷ l) (run-map n (suc i))

pub run-same : {A : Type 0} (f g : ℕ → A) (n i : ℕ) → ((j : ℕ) → i ≤ j → j < i + n → f j ≡ g j) → run f i n ≡ run g i n
unfolding run
run-same f g zero i h = refl
run-same f g (suc n) i h =
    ap₂ (λ a l. a ∷ l) (h i (omega arith) (omega arith)) (run-same f g n (suc i) (λ j l s. h j (omega arith) (omega arith)))

-- entries of a table are its values
pub run-entries : {A B : Type 0} (from : List A → ℕ → B) (w : ℕ) (s : List A) (n i k : ℕ) → k ≡ i * w
    → entries_from from w s k n ≡ run (λ j. from s (j * w)) i n
unfolding run entries_from
run-entries from w s zero i k e = refl
run-entries from w s (suc n) i k e =
    ap₂ (λ a l. a ∷ l) (ap (from s) e) (run-entries from w s n (suc i) (k + w) (omega (arith, e)))

-- the places of a table are its points
pub points-are : (pts : List ℤ) (n : ℕ) → entries place_from 2 pts n ≡ points_in pts n
points-are pts n = run-entries place_from 2 pts n 0 0 refl
