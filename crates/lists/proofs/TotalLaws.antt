-- Sums: one position taken out, a list turned round, a part without repeats; and sums compared layer by layer, where at every height one
-- list has no more entries above it than the other.
-- Assumes nothing.
use mathlib.Core.Path.{◌≡◌, refl, sym, ap}
use mathlib.Core.List.Memᴰ
use mathlib.Core.List.{List, [], ◌∷◌, map, reverse, reverse_aux}
use Prim.Native.Nat.{ℕ, zero, suc, ◌+◌, ◌≤◌, min, max}
use native.Mathlib.Omega.{arith}
use borrow.Author.Tests.{ltb-true, ltb-false}
use lib.Dec.{ltb}
use Rattle.lists.specs.Member.{◌∈◌, here, there, Among, Once, rest}
use Rattle.lists.specs.Those.{those}
use Rattle.lists.specs.Total.{total, most, above}
use Rattle.lists.proofs.TestLaws.{by, either}
use Rattle.lists.proofs.MemberLaws.{rest-or}

module _ {B : Type 0} (w : B → ℕ) where
  pub total-rest : {e : B} {l : List B} (m : e ∈ l) → total (map w l) ≡ w e + total (map w (rest m))
  unfolding rest total
  total-rest (here {xs = l} h) = ap (λ (d : B). w d + total (map w l)) (sym h)
  total-rest (there m) = omega (arith, total-rest m)

  total-turned : (l m : List B) → total (map w (reverse_aux l m)) ≡ total (map w l) + total (map w m)
  unfolding total
  total-turned [] m = omega arith
  total-turned (e ∷ l) m = omega (arith, total-turned l (e ∷ m))

  pub total-reverse : (l : List B) → total (map w (reverse l)) ≡ total (map w l)
  unfolding total
  total-reverse l = omega (arith, total-turned l [])

  -- each of some entries once comes to no more than all of them
  pub once-total : (l m : List B) → Once l → Among l m → total (map w l) ≤ total (map w m)
  unfolding total
  once-total [] m o h = omega arith
  once-total (e ∷ l) m o h =
      let i = h e (here refl) in
      let left : Among l (rest i) = λ d k. either (λ z. absurd (o.0 (Memᴰ.cast (sym z) k))) (λ r. r) (rest-or i (h d (there k))) in
      omega (arith, once-total l (rest i) o.1 left, total-rest i)

  -- The greatest

  pub le-most : (l : List B) (e : B) → e ∈ l → w e ≤ most (map w l)
  unfolding most
  le-most [] e m = elim m [ ]
  le-most (d ∷ l) e m =
      either (λ k. let h : w e ≡ w d = ap w k in omega arith) (λ i. omega (arith, le-most l e i)) (Memᴰ.cases_cons m)

  pub most-le : (l : List B) (t : ℕ) → ((e : B) → e ∈ l → w e ≤ t) → most (map w l) ≤ t
  unfolding most
  most-le [] t h = omega arith
  most-le (e ∷ l) t h = omega (arith, h e (here refl), most-le l t (λ d m. h d (there m)))

-- Layer by layer

-- the sum of what each number has below height t
capped : ℕ → List ℕ → ℕ
capped t [] = 0
capped t (x ∷ l) = min x t + capped t l

layer : (t : ℕ) (l : List ℕ) → capped (suc t) l ≡ capped t l + above t l
unfolding capped above those
layer t [] = refl
layer t (x ∷ l) =
    by (ltb t x)
    (λ e. rw (those, e) (omega (arith, ltb-true t x e, layer t l)))
    (λ e. rw (those, e) (omega (arith, ltb-false t x e, layer t l)))

capped-none : (l : List ℕ) → capped 0 l ≡ 0
unfolding capped
capped-none [] = refl
capped-none (x ∷ l) = omega (arith, capped-none l)

capped-all : (t : ℕ) (l : List ℕ) → most l ≤ t → capped t l ≡ total l
unfolding capped total most
capped-all t [] h = refl
capped-all t (x ∷ l) h = omega (arith, capped-all t l (omega arith))

module _ (k l : List ℕ) (fewer : (t : ℕ) → above t k ≤ above t l) where
  capped_le : (t : ℕ) → capped t k ≤ capped t l
  capped_le zero = omega (arith, capped-none k)
  capped_le (suc t) = omega (arith, layer t k, layer t l, fewer t, capped_le t)

  pub total-le : total k ≤ total l
  total-le =
      let t = max (most k) (most l) in
      omega (arith, capped-all t k (omega arith), capped-all t l (omega arith), capped_le t)
