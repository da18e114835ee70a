-- Memberships made, taken apart and carried over, and the pigeonhole: a list without repeats is no longer than a list that holds its
-- entries. A position is struck out of the second list for each entry of the first.
-- Assumes nothing.
use mathlib.Core.Path.{◌≡◌, refl, sym, ap, ◌∙◌}
use mathlib.Core.Logic.{◌⊎◌, inl, inr}
use mathlib.Core.List.Memᴰ
use mathlib.Core.List.{List, [], ◌∷◌, ◌++◌, reverse, reverse_aux}
use Prim.Native.Nat.{ℕ, zero, suc, ◌≤◌, ◌<◌}
use native.Mathlib.Omega.{arith}
use lib.ListN.{length, get_or}
use Rattle.lists.specs.Member.{◌∈◌, here, there, Among, Once, rest}
use Rattle.lists.proofs.TestLaws.{either}

-- One position less

module _ {A : Type 0} where
  pub length_rest : {x : A} {l : List A} (m : x ∈ l) → length l ≡ suc (length (rest m))
  unfolding rest
  length_rest (here e) = refl
  length_rest (there m) = ap suc (length_rest m)

  pub rest-or : {x y : A} {l : List A} (m : x ∈ l) → y ∈ l → (y ≡ x) ⊎ (y ∈ rest m)
  unfolding rest
  rest-or (here e) (here f) = inl (f ∙ sym e)
  rest-or (here e) (there n) = inr n
  rest-or (there m) (here f) = inr (here f)
  rest-or (there m) (there n) = either inl (λ i. inr (there i)) (rest-or m n)

  pub rest_in : {x y : A} {l : List A} (m : x ∈ l) → y ∈ rest m → y ∈ l
  unfolding rest
  rest_in (here e) n = there n
  rest_in (there m) n = either (λ e. here e) (λ i. there (rest_in m i)) (Memᴰ.cases_cons n)

  pub rest-once : {x : A} {l : List A} (m : x ∈ l) → Once l → Once (rest m)
  unfolding rest
  rest-once (here e) o = o.1
  rest-once (there m) o = (λ i. o.0 (rest_in m i), rest-once m o.1)

  pub rest-gone : {x : A} {l : List A} (m : x ∈ l) → Once l → x ∈ rest m → ⊥
  unfolding rest
  rest-gone (here e) o i = o.0 (Memᴰ.cast (sym e) i)
  rest-gone (there m) o i = either (λ e. o.0 (Memᴰ.cast (sym e) m)) (rest-gone m o.1) (Memᴰ.cases_cons i)

  -- the pigeonhole
  pub once-length : (l m : List A) → Once l → Among l m → length l ≤ length m
  once-length [] m o h = omega arith
  once-length (x ∷ l) m o h =
      let i = h x (here refl) in
      let left : Among l (rest i) = λ y k. either (λ e. absurd (o.0 (Memᴰ.cast (sym e) k))) (λ r. r) (rest-or i (h y (there k))) in
      omega (arith, once-length l (rest i) o.1 left, length_rest i)

  -- No repeats

  pub once-head : {x y : A} {l : List A} → x ≡ y → Once (y ∷ l) → Once (x ∷ l)
  once-head e o = (λ m. o.0 (Memᴰ.cast (sym e) m), o.1)

  pub once-apart : (l m : List A) → Once (l ++ m) → (x : A) → x ∈ l → x ∈ m → ⊥
  once-apart [] m o x x5 k = elim x5 [ ]
  once-apart (y ∷ l) m o x (here e) k = o.0 (Memᴰ.append_right l (Memᴰ.cast (sym e) k))
  once-apart (y ∷ l) m o x (there i) k = once-apart l m o.1 x i k

  pub once-end : (l : List A) (x : A) → Once l → (x ∈ l → ⊥) → Once (l ++ (x ∷ []))
  once-end [] x o n = (λ i. elim i [ ], tt)
  once-end (y ∷ l) x o n = (λ i. either o.0 last (Memᴰ.append_cases l i), once-end l x o.1 (λ i. n (there i)))
    where
      last : y ∈ (x ∷ []) → ⊥
      last i = either (λ e. n (here (sym e))) (λ k. elim k [ ]) (Memᴰ.cases_cons i)

  -- The list turned round

  pub in-turned : (l m : List A) {x : A} → (x ∈ l) ⊎ (x ∈ m) → x ∈ reverse_aux l m
  in-turned [] m (inl i) = elim i [ ]
  in-turned [] m (inr i) = i
  in-turned (y ∷ l) m (inl i) = in-turned l (y ∷ m) (either (λ e. inr (here e)) inl (Memᴰ.cases_cons i))
  in-turned (y ∷ l) m (inr i) = in-turned l (y ∷ m) (inr (there i))

  pub of-turned : (l m : List A) {x : A} → x ∈ reverse_aux l m → (x ∈ l) ⊎ (x ∈ m)
  of-turned [] m i = inr i
  of-turned (y ∷ l) m i =
      either (λ k. inl (there k)) (λ k. either (λ e. inl (here e)) inr (Memᴰ.cases_cons k)) (of-turned l (y ∷ m) i)

  pub in-reverse : (l : List A) → Among l (reverse l)
  in-reverse l x i = in-turned l [] (inl i)

  pub of_reverse : (l : List A) → Among (reverse l) l
  of_reverse l x i = either (λ k. k) (λ k. elim k [ ]) (of-turned l [] i)

  -- The entry at a place, counted from 0

  pub get_d-in : (l : List A) (i : ℕ) (d : A) → i < length l → get_or l i d ∈ l
  get_d-in [] i d h = absurd (let z : ⊥ = omega arith in z)
  get_d-in (x ∷ l) zero d h = here refl
  get_d-in (x ∷ l) (suc i) d h = there (get_d-in l i d (omega arith))

  -- Membership decided

  pub is-in : Discrete A → (x : A) (l : List A) → Dec (x ∈ l)
  is-in same x [] = no (λ m. elim m [ ])
  is-in same x (y ∷ l) = at (same x y) (is-in same x l)
    where
      at : Dec (x ≡ y) → Dec (x ∈ l) → Dec (x ∈ (y ∷ l))
      at (yes e) d = yes (here e)
      at (no e) (yes m) = yes (there m)
      at (no e) (no m) = no (λ i. either e m (Memᴰ.cases_cons i))
