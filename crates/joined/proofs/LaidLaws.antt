-- The pairs laid from s to some points: s is joined with each of the points, and one pair is left out exactly where s is one of them.
-- Assumes nothing.
use mathlib.Core.Path.{◌≡◌, refl, sym, ap, ◌∙◌}
use mathlib.Core.Logic.{◌⊎◌, inl, inr}
use mathlib.Core.List.Memᴰ
use mathlib.Core.List.{List, [], ◌∷◌, map}
use Prim.Native.Nat.{ℕ, suc, ◌+◌}
use native.Mathlib.Omega.{arith}
use lib.ListN.{length}
use Rattle.lists.specs.Member.{◌∈◌, here, there, Once}
use Rattle.lists.specs.Total.{total}
use Rattle.lists.proofs.TestLaws.{either}
use Rattle.joined.specs.Joined.{Joined, stay}
use Rattle.joined.specs.Cost.{Cost, lengths}
use Rattle.joined.specs.Exchange.{laid}
use Rattle.joined.proofs.JoinedLaws.{one, older}

module _ {A : Type 0} (same : Discrete A) (s : A) where
  pub data Lays (x : A) (l : List A) : Type 0 where
    nothing : s ≡ x → laid same s (x ∷ l) ≡ laid same s l → Lays x l
    pair : (s ≡ x → ⊥) → laid same s (x ∷ l) ≡ (s, x) ∷ laid same s l → Lays x l

  pub lays : (x : A) (l : List A) → Lays x l
  unfolding laid
  lays x l = at (same s x) refl
    where
      at : (d : Dec (s ≡ x)) → same s x ≡ d → Lays x l
      at (yes e) k = nothing e (rw (laid, k) refl)
      at (no e) k = pair e (rw (laid, k) refl)

  laid_none : laid same s [] ≡ []
  unfolding laid
  laid_none = refl

  pub laid-joined : (l : List A) (x : A) → x ∈ l → Joined (laid same s l) s x
  laid-joined [] x m = elim m [ ]
  laid-joined (y ∷ l) x m = at (laid-joined l x) (lays y l) (Memᴰ.cases_cons m)
    where
      at : (x ∈ l → Joined (laid same s l) s x) → Lays y l → (x ≡ y) ⊎ (x ∈ l) → Joined (laid same s (y ∷ l)) s x
      at ih (nothing e r) (inl k) = stay (e ∙ sym k)
      at ih (nothing e r) (inr i) = rw r (ih i)
      at ih (pair e r) (inl k) = rw (r, k) (one (inl (here refl)))
      at ih (pair e r) (inr i) = rw r (older (ih i))

  -- its pairs go from s to points of the list
  pub of-laid : (l : List A) (p q : A) → (p, q) ∈ laid same s l → (p ≡ s) × (q ∈ l)
  of-laid [] p q m = elim (rw laid_none at m) [ ]
  of-laid (x ∷ l) p q m = at (of-laid l p q) (lays x l)
    where
      at : ((p, q) ∈ laid same s l → (p ≡ s) × (q ∈ l)) → Lays x l → (p ≡ s) × (q ∈ (x ∷ l))
      at ih (nothing e r) = let h = ih (rw r at m) in (h.0, there h.1)
      at ih (pair e r) =
          either
          (λ k. (ap (λ (z : A × A). z.0) k, here (ap (λ (z : A × A). z.1) k)))
          (λ i. let h = ih i in (h.0, there h.1))
          (Memᴰ.cases_cons (rw r at m))

  pub length-laid-new : (l : List A) → (s ∈ l → ⊥) → length (laid same s l) ≡ length l
  length-laid-new [] n = ap length laid_none
  length-laid-new (x ∷ l) n = at (length-laid-new l (λ i. n (there i))) (lays x l)
    where
      at : length (laid same s l) ≡ length l → Lays x l → length (laid same s (x ∷ l)) ≡ suc (length l)
      at ih (nothing e r) = absurd (n (here e))
      at ih (pair e r) = ap length r ∙ ap suc ih

  pub length-laid-old : (l : List A) → s ∈ l → Once l → suc (length (laid same s l)) ≡ length l
  length-laid-old [] m o = elim m [ ]
  length-laid-old (x ∷ l) m o = at (λ i. length-laid-old l i o.1) (lays x l)
    where
      at : (s ∈ l → suc (length (laid same s l)) ≡ length l) → Lays x l → suc (length (laid same s (x ∷ l))) ≡ suc (length l)
      at ih (nothing e r) = ap suc (ap length r ∙ length-laid-new l (λ i. o.0 (Memᴰ.cast (sym e) i)))
      at ih (pair e r) = ap suc (ap length r ∙ ih (either (λ k. absurd (e k)) (λ i. i) (Memᴰ.cases_cons m)))

  -- a pair that is left out has length 0
  pub lengths-laid : (d : A → A → ℕ) → Cost d → (l : List A) → lengths d (laid same s l) ≡ total (map (d s) l)
  unfolding lengths total
  lengths-laid d c [] = ap (lengths d) laid_none
  lengths-laid d c (x ∷ l) = at (lengths-laid d c l) (lays x l)
    where
      at : lengths d (laid same s l) ≡ total (map (d s) l) → Lays x l → lengths d (laid same s (x ∷ l)) ≡ d s x + total (map (d s) l)
      at ih (nothing e r) = let z : d s x ≡ 0 = rw (sym e) (c.none s) in ap (lengths d) r ∙ omega (arith, z, ih)
      at ih (pair e r) = ap (lengths d) r ∙ omega (arith, ih)
