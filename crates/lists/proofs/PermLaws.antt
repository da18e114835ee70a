-- The same entries in another order: each list holds what the other one holds. An order of entries tells any two of them apart, so two
-- lists of them are equal in one way at most; that is what lets a fact about some permutation prove an equation of lists.
-- Assumes nothing.
use mathlib.Core.Path.{◌≡◌, sym, ◌∙◌}
use mathlib.Core.Bool.{Bool, true}
use mathlib.Core.HLevel.{hedberg}
use mathlib.Core.List.Memᴰ
use mathlib.Core.List.{List, is_set}
use mathlib.Core.List.{Permᴰ}
use Rattle.lists.specs.Member.{here, there, Among}
use Rattle.lists.specs.Sorted.{Order}
use Rattle.lists.proofs.TestLaws.{by, differ, either}

module _ {A : Type 0} where
  pub perm-among : {l m : List A} → Permᴰ l m → Among l m
  perm-among Permᴰ.nil x i = i
  perm-among (Permᴰ.cons e d) x i = either (λ f. here (f ∙ e)) (λ k. there (perm-among d x k)) (Memᴰ.cases_cons i)
  perm-among (Permᴰ.swap e f) x i =
      either
      (λ g. there (here (g ∙ e)))
      (λ k. either (λ g. here (g ∙ f)) (λ j. there (there j)) (Memᴰ.cases_cons k))
      (Memᴰ.cases_cons i)
  perm-among (Permᴰ.trans d e) x i = perm-among e x (perm-among d x i)

module _ {A : Type 0} {before : A → A → Bool} (order : Order before) where
  -- what comes before another is another
  pub before-differs : (a b : A) → before a b ≡ true → a ≡ b → ⊥
  before-differs a b e k = differ e (rw k (order.never b))

  pub order_same : Discrete A
  order_same a b =
      by (before a b) (λ e. no (before-differs a b e))
      (λ e. by (before b a) (λ f. no (λ k. before-differs b a f (sym k))) (λ f. yes (order.tie a b e f)))

  pub order-lists-set : IsSet (List A)
  order-lists-set = is_set (hedberg order_same)
