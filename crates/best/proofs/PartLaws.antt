-- Parts of a list of edges: where a test is the same at both ends of each edge, the edges that pass it join whatever points pass it and are
-- joined; and the two parts cost together what the list costs.
-- Assumes nothing.
use mathlib.Core.Path.{◌≡◌, refl, sym, ◌∙◌}
use mathlib.Core.Bool.{Bool, true, false, not}
use mathlib.Core.Logic.{◌⊎◌, inl, inr}
use mathlib.Core.List.Memᴰ
use mathlib.Core.List.{List, [], ◌∷◌}
use Prim.Native.Nat.{ℕ, ◌+◌, ◌≤◌}
use native.Mathlib.Omega.{arith}
use lib.ListN.{length}
use Rattle.lists.specs.Member.{◌∈◌, here, there, Among}
use Rattle.lists.specs.Those.{those}
use Rattle.lists.specs.Total.{total}
use Rattle.lists.proofs.TestLaws.{by, either}
use Rattle.lists.proofs.ThoseLaws.{in-those, of-those, those-split}
use Rattle.joined.specs.Joined.{Joined, stay, step}
use Rattle.joined.specs.Cost.{lengths}

module _ {A : Type 0} where
  -- the edges whose first end passes
  unfoldable pub part : (A → Bool) → List (A × A) → List (A × A)
  part h F = those (λ (e : A × A). h e.0) F

  -- the test is the same at both ends
  abbrev pub Steady : (A → Bool) → List (A × A) → Type 0
  Steady h F = (a b : A) → (a, b) ∈ F → h a ≡ h b

  pub part-joins : (h : A → Bool) (F : List (A × A)) → Steady h F → {x y : A} → Joined F x y → h x ≡ true → Joined (part h F) x y
  unfolding part
  part-joins h F s (stay e) k = stay e
  part-joins h F s (step {x = x} {y = y} (inl m) j) k =
      step (inl (in-those (λ (e : A × A). h e.0) F m k)) (part-joins h F s j (sym (s x y m) ∙ k))
  part-joins h F s (step {x = x} {y = y} (inr m) j) k =
      let i : h y ≡ true = s y x m ∙ k in
      step (inr (in-those (λ (e : A × A). h e.0) F m i)) (part-joins h F s j i)

  pub part-costs : (d : A → A → ℕ) (h : A → Bool) (F : List (A × A)) →
      lengths d (part h F) + lengths d (part (λ x. not (h x)) F) ≡ lengths d F
  unfolding part those lengths total
  part-costs d h [] = refl
  part-costs d h (e ∷ F) =
      by (h e.0)
      (λ k. rw (those, k) (omega (arith, part-costs d h F)))
      (λ k. rw (those, k) (omega (arith, part-costs d h F)))

  pub part-among : (h : A → Bool) (F : List (A × A)) → Among (part h F) F
  unfolding part
  part-among h F e m = (of-those (λ (e : A × A). h e.0) F m).0

  pub part-lengths : (h : A → Bool) (F : List (A × A)) → length (part h F) ≤ length F
  unfolding part
  part-lengths h F = omega (arith, those-split (λ (e : A × A). h e.0) F)

-- all entries pass, or one fails
pub all-or-one : {A : Type 0} (f : A → Bool) (l : List A) → ((x : A) → x ∈ l → f x ≡ true) ⊎ ((x : A) × ((x ∈ l) × (f x ≡ false)))
all-or-one f [] = inl (λ x m. elim m [ ])
all-or-one f (y ∷ l) = by (f y) (λ e. at e (all-or-one f l)) (λ e. inr (y, (here refl, e)))
  where
    at : f y ≡ true → ((x : _) → x ∈ l → f x ≡ true) ⊎ ((x : _) × ((x ∈ l) × (f x ≡ false))) →
        ((x : _) → x ∈ (y ∷ l) → f x ≡ true) ⊎ ((x : _) × ((x ∈ (y ∷ l)) × (f x ≡ false)))
    at e (inl h) = inl (λ x m. either (λ k. rw k e) (h x) (Memᴰ.cases_cons m))
    at e (inr r) = inr (r.0, (there r.1.0, r.1.1))
