-- Labels by folding: after every pair, two points have the same label exactly when the pairs join them. A pair gives its second end's
-- label up for its first end's, so the points of both labels have one label then, and it is joined with them over that pair.
-- Assumes nothing.
use mathlib.Core.Path.{◌≡◌, refl, sym, ap, ◌∙◌}
use mathlib.Core.Bool.{true, false}
use mathlib.Core.Logic.{inr}
use mathlib.Core.List.Memᴰ
use mathlib.Core.List.{List, [], ◌∷◌}
use Rattle.lists.specs.Member.{◌∈◌, here}
use Rattle.lists.proofs.TestLaws.{differ, either}
use Rattle.joined.specs.Joined.{Joined, stay, step}
use Rattle.joined.specs.Labels.{equal, renamed, merge, labels, Labels}
use Rattle.joined.proofs.JoinedLaws.{cast, then, back, constant, older, firsts, seconds}

-- Tests of equality, and renaming

module _ {A : Type 0} (same : Discrete A) where
  pub equal-true : (x y : A) → equal same x y ≡ true → x ≡ y
  unfolding equal
  equal-true x y h = at (same x y) refl
    where
      at : (d : Dec (x ≡ y)) → same x y ≡ d → x ≡ y
      at (yes e) k = e
      at (no e) k = differ h (rw (equal, k) refl)

  pub equal-false : (x y : A) → equal same x y ≡ false → x ≡ y → ⊥
  unfolding equal
  equal-false x y h = at (same x y) refl
    where
      at : (d : Dec (x ≡ y)) → same x y ≡ d → x ≡ y → ⊥
      at (yes e) k = differ (rw (equal, k) refl) h
      at (no e) k = e

  pub data Renames (a b x : A) : Type 0 where
    hit : x ≡ b → renamed same a b x ≡ a → Renames a b x
    miss : (x ≡ b → ⊥) → renamed same a b x ≡ x → Renames a b x

  pub renames : (a b x : A) → Renames a b x
  unfolding renamed
  renames a b x = at (same x b) refl
    where
      at : (d : Dec (x ≡ b)) → same x b ≡ d → Renames a b x
      at (yes e) k = hit e (rw (renamed, k) refl)
      at (no e) k = miss e (rw (renamed, k) refl)

  pub renamed-hit : (a b x : A) → x ≡ b → renamed same a b x ≡ a
  renamed-hit a b x h = at (renames a b x)
    where
      at : Renames a b x → renamed same a b x ≡ a
      at (hit e r) = r
      at (miss e r) = absurd (e h)

  pub renamed-miss : (a b x : A) → (x ≡ b → ⊥) → renamed same a b x ≡ x
  renamed-miss a b x h = at (renames a b x)
    where
      at : Renames a b x → renamed same a b x ≡ x
      at (hit e r) = absurd (h e)
      at (miss e r) = r

  pub renamed-fix : (a b x : A) → x ≡ a → renamed same a b x ≡ a
  renamed-fix a b x h = at (renames a b x)
    where
      at : Renames a b x → renamed same a b x ≡ a
      at (hit e r) = r
      at (miss e r) = r ∙ h

-- What labels say

module _ {A : Type 0} {L : List (A × A)} {f : A → A} (s : Labels L f) where
  pub joined_same : {x y : A} → Joined L x y → f x ≡ f y
  joined_same j = constant f s.ends j

  pub same-joined : (x y : A) → f x ≡ f y → Joined L x y
  same-joined x y e = then (s.to x) (cast e (back (s.to y)))

-- One pair more

module _ {A : Type 0} (same : Discrete A) {L : List (A × A)} {f : A → A} (s : Labels L f) (p q : A) where
  abbrev g : A → A
  g x = renamed same (f p) (f q) (f x)

  own : (x : A) → g (g x) ≡ g x
  own x = at (renames same (f p) (f q) (f x))
    where
      at : Renames same (f p) (f q) (f x) → g (g x) ≡ g x
      at (hit e r) = rw r (renamed-fix same (f p) (f q) (f (f p)) (s.own p))
      at (miss e r) = rw r (ap (renamed same (f p) (f q)) (s.own x) ∙ r)

  to : (x : A) → Joined ((p, q) ∷ L) x (g x)
  to x = at (renames same (f p) (f q) (f x))
    where
      at : Renames same (f p) (f q) (f x) → Joined ((p, q) ∷ L) x (g x)
      at (hit e r) = rw r (then (older (s.to x)) (cast e (then (back (older (s.to q))) (step (inr (here refl)) (older (s.to p))))))
      at (miss e r) = rw r (older (s.to x))

  ends : (a b : A) → (a, b) ∈ ((p, q) ∷ L) → g a ≡ g b
  ends a b m =
      either
      (λ e. renamed-fix same (f p) (f q) (f a) (ap f (firsts e)) ∙ sym (renamed-hit same (f p) (f q) (f b) (ap f (seconds e))))
      (λ i. ap (renamed same (f p) (f q)) (s.ends a b i))
      (Memᴰ.cases_cons m)

  pub merged : Labels ((p, q) ∷ L) (merge same f p q)
  unfolding merge
  merged = record { own = own; to = to; ends = ends }

module _ {A : Type 0} (same : Discrete A) where
  pub labelled : (L : List (A × A)) → Labels L (labels same L)
  unfolding labels
  labelled [] = record { own = λ x. refl; to = λ x. stay refl; ends = λ a b m. elim m [ ] }
  labelled (e ∷ L) = merged same (labelled L) e.0 e.1

  -- whether two points are joined is decided by their labels
  pub is-joined : (L : List (A × A)) (x y : A) → Dec (Joined L x y)
  is-joined L x y = at (same (labels same L x) (labels same L y))
    where
      at : Dec (labels same L x ≡ labels same L y) → Dec (Joined L x y)
      at (yes e) = yes (same-joined (labelled L) x y e)
      at (no e) = no (λ j. e (joined_same (labelled L) j))
