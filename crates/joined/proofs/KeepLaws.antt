-- The kept items are a forest that joins whatever the offered ones join; and offered by weight, the light ones among the kept are what
-- is kept of the light ones. By cases of one item: its ends are joined by what was kept before it, or not.
-- Assumes nothing.
use mathlib.Core.Path.{◌≡◌, refl, sym, ap, ◌∙◌}
use mathlib.Core.Logic.{◌⊎◌, inl, inr}
use mathlib.Core.List.Memᴰ
use mathlib.Core.List.{List, [], ◌∷◌, map}
use Prim.Native.Nat.{ℕ, ◌≤◌, ◌<◌}
use native.Mathlib.Decide.{dec_le}
use native.Mathlib.Omega.{arith}
use Rattle.lists.specs.Member.{◌∈◌, here, there, Among}
use Rattle.lists.proofs.TestLaws.{by, either}
use Rattle.joined.specs.Joined.{Joined}
use Rattle.joined.specs.Labels.{equal, labels}
use Rattle.joined.specs.Tree.{Forest}
use Rattle.joined.specs.Keep.{keep}
use Rattle.joined.specs.Light.{Falling, light}
use Rattle.joined.proofs.JoinedLaws.{one, older, through, between, firsts, seconds}
use Rattle.joined.proofs.LightLaws.{light-all, light-miss, light-none}
use Rattle.joined.proofs.LabelLaws.{equal-true, equal-false, labelled, joined_same, same-joined}

-- What is kept

module _ {A B : Type 0} (same : Discrete A) (ends : B → A × A) where
  pub data Keeps (e : B) (L : List B) : Type 0 where
    dropped : Joined (map ends (keep same ends L)) (ends e).0 (ends e).1 → keep same ends (e ∷ L) ≡ keep same ends L → Keeps e L
    taken : (Joined (map ends (keep same ends L)) (ends e).0 (ends e).1 → ⊥) → keep same ends (e ∷ L) ≡ e ∷ keep same ends L → Keeps e L

  pub keeps : (e : B) (L : List B) → Keeps e L
  unfolding keep
  keeps e L =
      let K = map ends (keep same ends L) in
      let p = labels same K (ends e).0 in
      let q = labels same K (ends e).1 in
      by (equal same p q)
      (λ h. dropped (same-joined (labelled same K) _ _ (equal-true same p q h)) (rw (keep, h) refl))
      (λ h. taken (λ j. equal-false same p q h (joined_same (labelled same K) j)) (rw (keep, h) refl))

  pub keep-none : keep same ends [] ≡ []
  unfolding keep
  keep-none = refl

  pub keep-among : (L : List B) → Among (keep same ends L) L
  keep-among [] d m = rw keep-none at m
  keep-among (e ∷ L) d m = at (keep-among L d) (keeps e L)
    where
      at : (d ∈ keep same ends L → d ∈ L) → Keeps e L → d ∈ (e ∷ L)
      at ih (dropped j r) = there (ih (rw r at m))
      at ih (taken j r) = either (λ k. here k) (λ i. there (ih i)) (Memᴰ.cases_cons (rw r at m))

  pub keep-forest : (L : List B) → Forest (map ends (keep same ends L))
  keep-forest [] = rw keep-none tt
  keep-forest (e ∷ L) = at (keep-forest L) (keeps e L)
    where
      at : Forest (map ends (keep same ends L)) → Keeps e L → Forest (map ends (keep same ends (e ∷ L)))
      at ih (dropped j r) = rw r ih
      at ih (taken j r) = rw r (j, ih)

  -- the ends of an item that is offered are joined by what is kept
  keep-pairs : (L : List B) (a b : A) → (a, b) ∈ map ends L → Joined (map ends (keep same ends L)) a b
  keep-pairs [] a b m = elim m [ ]
  keep-pairs (e ∷ L) a b m = at (keep-pairs L a b) (keeps e L) (Memᴰ.cases_cons m)
    where
      at : ((a, b) ∈ map ends L → Joined (map ends (keep same ends L)) a b) → Keeps e L →
          (◌≡◌ {A = A × A} (a, b) (ends e)) ⊎ ((a, b) ∈ map ends L) → Joined (map ends (keep same ends (e ∷ L))) a b
      at ih (dropped j r) (inl q) = rw r (between (firsts q) (seconds q) j)
      at ih (dropped j r) (inr i) = rw r (ih i)
      at ih (taken j r) (inl q) = rw r (one (inl (here q)))
      at ih (taken j r) (inr i) = rw r (older (ih i))

  pub keep-joined : (L : List B) {x y : A} → Joined (map ends L) x y → Joined (map ends (keep same ends L)) x y
  keep-joined L j = through (keep-pairs L) j

-- what is kept of the light ones are the light ones of what is kept
module _ {A B : Type 0} (same : Discrete A) (ends : B → A × A) (weight : B → ℕ) (t : ℕ) where
  pub keep-light : (L : List B) → Falling weight L → light weight t (keep same ends L) ≡ keep same ends (light weight t L)
  keep-light [] h = simp (keep-none, light-none)
  keep-light (e ∷ L) h = at (keep-light L h.1) (dec_le (weight e) t)
    where
      above-t : light weight t (keep same ends L) ≡ keep same ends (light weight t L) → t < weight e → Keeps same ends e L →
          light weight t (keep same ends (e ∷ L)) ≡ keep same ends (light weight t L)
      above-t ih k (dropped j r) = ap (light weight t) r ∙ ih
      above-t ih k (taken j r) = ap (light weight t) r ∙ light-miss weight t e (keep same ends L) k ∙ ih

      light-each : weight e ≤ t → (d : B) → d ∈ (e ∷ L) → weight d ≤ t
      light-each k d m = either (λ q. rw q k) (λ i. omega (arith, h.0 d i)) (Memᴰ.cases_cons m)

      at : light weight t (keep same ends L) ≡ keep same ends (light weight t L) → Dec (weight e ≤ t) →
          light weight t (keep same ends (e ∷ L)) ≡ keep same ends (light weight t (e ∷ L))
      at ih (no k) = let l : t < weight e = omega arith in above-t ih l (keeps same ends e L)
          ∙ ap (keep same ends) (sym (light-miss weight t e L l))
      at ih (yes k) =
          light-all weight t (keep same ends (e ∷ L)) (λ d m. light-each k d (keep-among same ends (e ∷ L) d m))
          ∙ ap (keep same ends) (sym (light-all weight t (e ∷ L) (light-each k)))
