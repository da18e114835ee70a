-- A list made of a piece for each entry of another one: what it holds, how long it gets, and one entry more at the end. `all` is any
-- function with the two equations of such a list, so each definition of this form has the laws.
-- Assumes nothing.
use mathlib.Core.Path.{◌≡◌, refl, sym, ap, ◌∙◌}
use mathlib.Core.List.{List, [], ◌∷◌, ◌++◌, append_assoc, append-nil}
use mathlib.Core.List.Memᴰ
use Prim.Native.Nat.{ℕ, ◌*◌, ◌≤◌}
use native.Mathlib.Nat.{mul-suc}
use native.Mathlib.Omega.{arith}
use lib.ListN.{length, length-append}
use Rattle.lists.specs.Member.{◌∈◌, here, there}
use Rattle.lists.proofs.TestLaws.{either}

-- the entry of l whose piece holds b
pub record Piece {A B : Type 0} (of : A → List B) (l : List A) (b : B) : Type 0 where
  pub entry : A
  pub stands : entry ∈ l
  pub holds : b ∈ of entry

module _ {A B : Type 0} (of : A → List B) (all : List A → List B)
    (none : all [] ≡ [])
    (more : (a : A) (l : List A) → all (a ∷ l) ≡ of a ++ all l) where
  pub of-each : (l : List A) {b : B} → b ∈ all l → Piece of l b
  of-each [] m = elim (rw none at m) [ ]
  of-each (a ∷ l) {b} m =
      either (λ i. record { entry = a; stands = here refl; holds = i }) (λ i. further (of-each l i))
      (Memᴰ.append_cases (of a) (rw more at m))
    where
      further : Piece of l b → Piece of (a ∷ l) b
      further p = record { entry = p.entry; stands = there p.stands; holds = p.holds }

  pub in-each : (l : List A) {a : A} {b : B} → a ∈ l → b ∈ of a → b ∈ all l
  in-each [] {a = a} {b = b} m i = elim m [ ]
  in-each (c ∷ l) m i =
      rw more
      (either (λ e. Memᴰ.append_left (all l) (rw e at i)) (λ k. Memᴰ.append_right (of c) (in-each l k i)) (Memᴰ.cases_cons m))

  pub length-each : (n : ℕ) → ((a : A) → length (of a) ≤ n) → (l : List A) → length (all l) ≤ n * length l
  length-each n h [] = rw none (omega arith)
  length-each n h (a ∷ l) = rw (more, length-append) (omega (arith, h a, length-each n h l, mul-suc n (length l)))

  pub each_snoc : (l : List A) (a : A) → all (l ++ (a ∷ [])) ≡ all l ++ of a
  each_snoc [] a = rw (more, none) (append-nil (of a))
  each_snoc (b ∷ l) a = rw (more, more, each_snoc l a) (sym (append_assoc (of b) (all l) (of a)))
