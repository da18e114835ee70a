-- Edges that join a point with a set of pins: none at a lone pin; one edge more; two lists that meet.
-- Assumes nothing.
use mathlib.Core.Path.{◌≡◌, refl, sym, subst, ◌∙◌}
use mathlib.Core.Logic.{◌⊎◌, inl, inr}
use mathlib.Core.List.Memᴰ
use mathlib.Core.List.{List, [], ◌∷◌, ◌++◌}
use Prim.Native.Nat.{ℕ, ◌+◌}
use native.Mathlib.Omega.{arith}
use Rattle.lists.specs.Member.{◌∈◌, here}
use Rattle.lists.specs.Total.{total}
use Rattle.lists.proofs.TestLaws.{either}
use Rattle.joined.specs.Joined.{Link, stay, step}
use Rattle.joined.specs.Cost.{Cost, lengths}
use Rattle.joined.proofs.JoinedLaws.{firsts, seconds, turn, more, older}
use Rattle.joined.proofs.CostLaws.{lengths-append}
use Rattle.best.specs.Sets.{JoinsAt}

module _ {A M : Type 0} (pins_of : M → List A) (G : List (A × A)) (d : A → A → ℕ) where
  abbrev Joins : List (A × A) → M → A → ℕ → Type 0
  Joins F S v n = JoinsAt pins_of G d F S v n

  pub joins-lone : (S : M) (v : A) → ((p : A) → p ∈ pins_of S → p ≡ v) → Joins [] S v 0
  unfolding lengths total
  joins-lone S v h = record { on-grid = λ a b m. elim m [ ]; reaches = λ p m. stay (sym (h p m)); cost = refl }

  pub joins-over : (F : List (A × A)) (S : M) (v w : A) (n : ℕ) → Link G v w → Joins F S w n → Joins ((v, w) ∷ F) S v (n + d v w)
  unfolding lengths total
  joins-over F S v w n l k = record {
    on-grid = λ a b m.
        either (λ e. let i : a ≡ v = firsts e in let j : b ≡ w = seconds e in rw (i, j) l) (k.on-grid a b) (Memᴰ.cases_cons m);
    reaches = λ p m. step (inl (here refl)) (older (k.reaches p m));
    cost = omega (arith, k.cost);
  }

  pub joins-met : (F H : List (A × A)) (S P Q : M) (v : A) (m n : ℕ) → ((p : A) → p ∈ pins_of S → (p ∈ pins_of P) ⊎ (p ∈ pins_of Q)) →
      Joins F P v m → Joins H Q v n → Joins (F ++ H) S v (m + n)
  joins-met F H S P Q v m n h j k = record {
    on-grid = λ a b i. either (j.on-grid a b) (k.on-grid a b) (Memᴰ.append_cases F i);
    reaches = λ p i.
        either (λ q. more (λ e r. Memᴰ.append_left H r) (j.reaches p q)) (λ q. more (λ e r. Memᴰ.append_right F r) (k.reaches p q))
        (h p i);
    cost = omega (arith, lengths-append d F H, j.cost, k.cost);
  }

  pub joins-cost : {F : List (A × A)} {S : M} {v : A} {m n : ℕ} → n ≡ m → Joins F S v m → Joins F S v n
  joins-cost e j = record { on-grid = j.on-grid; reaches = j.reaches; cost = j.cost ∙ sym e }

  joins-under : Cost d → (F : List (A × A)) (S : M) (v w : A) (n : ℕ) → Link G v w → Joins F S w n → Joins ((w, v) ∷ F) S v (n + d v w)
  unfolding lengths total
  joins-under metric F S v w n l k = record {
    on-grid = λ a b m.
        either (λ e. let i : a ≡ w = firsts e in let j : b ≡ v = seconds e in rw (i, j) (turn l)) (k.on-grid a b) (Memᴰ.cases_cons m);
    reaches = λ p m. step (inr (here refl)) (older (k.reaches p m));
    cost = omega (arith, k.cost, metric.even v w);
  }

  -- an edge more, given from either end
  pub joins-edge : Cost d → (F : List (A × A)) (S : M) (v w : A) (n : ℕ) (x : A × A) → (x ≡ (v, w)) ⊎ (x ≡ (w, v)) → Link G v w →
      Joins F S w n → Joins (x ∷ F) S v (n + d v w)
  joins-edge metric F S v w n x (inl e) l k = subst (λ (z : A × A). Joins (z ∷ F) S v (n + d v w)) (sym e) (joins-over F S v w n l k)
  joins-edge metric F S v w n x (inr e) l k =
      subst (λ (z : A × A). Joins (z ∷ F) S v (n + d v w)) (sym e) (joins-under metric F S v w n l k)
