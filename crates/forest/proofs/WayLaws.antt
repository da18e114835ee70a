-- Ways by steps along parents: at a root, one step, and no longer than the distance. The distance falls with each step, so any number of
-- steps that is not below the distance is enough.
-- Assumes nothing.
use mathlib.Core.Path.{◌≡◌, refl, sym, ap, ◌∙◌}
use mathlib.Core.List.{List, [], ◌∷◌}
use Prim.Native.Nat.{ℕ, zero, suc, ◌+◌, ◌-◌, ◌≤◌, ◌<◌}
use native.Mathlib.Omega.{arith}
use lib.Dec.{ltb}
use lib.ListN.{get_or}
use borrow.Author.Tests.{ltb-true, ltb-false, lt-ltb, le-ltb}
use Rattle.lists.specs.Total.{total}
use Rattle.lists.proofs.TestLaws.{by}
use Rattle.forest.specs.Bounds.{point_bound}
use Rattle.forest.specs.Parents.{Parents, up, via, way_of, way, way_length, climb, way_after, Falls, Nearing}

module _ (p : Parents) (n v : ℕ) where
  pub way-stop : point_bound ≤ up p v → way_of p (suc n) v ≡ []
  unfolding way_of
  way-stop h = rw (way_of, le-ltb (up p v) point_bound h) refl

  pub way-go : up p v < point_bound → way_of p (suc n) v ≡ via p v ∷ way_of p n (up p v)
  unfolding way_of
  way-go h = rw (way_of, lt-ltb (up p v) point_bound h) refl

pub way-none : (p : Parents) (n v : ℕ) → point_bound ≤ up p v → way_of p n v ≡ []
unfolding way_of
way-none p zero v h = refl
way-none p (suc n) v h = way-stop p n v h

pub root-way : (lengths fars : List ℕ) (p : Parents) (v : ℕ) → point_bound ≤ up p v → way_length lengths fars p v ≡ 0
unfolding way_length way total
root-way lengths fars p v h = rw (way-none p (get_or fars v 0) v h) refl

module _ (lengths fars : List ℕ) (p : Parents) (f : Falls lengths fars p) where
  abbrev away : ℕ → ℕ
  away v = get_or fars v 0

  -- a step makes the distance smaller
  pub nearer-by : (v : ℕ) → v < point_bound → up p v < point_bound → get_or fars (up p v) 0 < get_or fars v 0
  nearer-by v h u = omega (arith, f.falls v h u, f.some v h u)

  -- a vertex at no distance has no parent
  at-root : (v : ℕ) → v < point_bound → away v ≤ 0 → point_bound ≤ up p v
  at-root v h a =
      by (ltb (up p v) point_bound)
      (λ e. absurd (let z : ⊥ = omega (arith, nearer-by v h (ltb-true _ _ e)) in z))
      (λ e. ltb-false _ _ e)

  pub enough : (n m v : ℕ) → v < point_bound → get_or fars v 0 ≤ n → get_or fars v 0 ≤ m → way_of p n v ≡ way_of p m v
  enough zero m v h a b = let u = at-root v h a in way-none p zero v u ∙ sym (way-none p m v u)
  enough (suc n) zero v h a b = let u = at-root v h b in way-none p (suc n) v u ∙ sym (way-none p zero v u)
  enough (suc n) (suc m) v h a b =
      by (ltb (up p v) point_bound)
      (λ e.
      let u = ltb-true _ _ e in
      let l = nearer-by v h u in
      way-go p n v u ∙ ap (λ (r : List ℕ). via p v ∷ r) (enough n m (up p v) u (omega arith) (omega arith)) ∙ sym (way-go p m v u))
      (λ e. let u = ltb-false _ _ e in way-stop p n v u ∙ sym (way-stop p m v u))

  pub way_step : (v : ℕ) → v < point_bound → up p v < point_bound → way fars p v ≡ via p v ∷ way fars p (up p v)
  unfolding way
  way_step v h u =
      let l = nearer-by v h u in
      let e : away v ≡ suc (away v - 1) = omega arith in
      ap (λ (n : ℕ). way_of p n v) e
      ∙ way-go p (away v - 1) v u
      ∙ ap (λ (r : List ℕ). via p v ∷ r) (enough (away v - 1) (away (up p v)) (up p v) u (omega arith) (omega arith))

  pub step-length : (v : ℕ) → v < point_bound → up p v < point_bound →
      way_length lengths fars p v ≡ get_or lengths (via p v) 0 + way_length lengths fars p (up p v)
  unfolding way_length total
  step-length v h u = rw (way_step v h u) refl

  -- no longer than the distance
  low-to : (n v : ℕ) → away v ≤ n → v < point_bound → way_length lengths fars p v ≤ away v
  low-to zero v a h = omega (arith, root-way lengths fars p v (at-root v h a))
  low-to (suc n) v a h =
      by (ltb (up p v) point_bound)
      (λ e.
      let u = ltb-true _ _ e in
      omega (arith, low-to n (up p v) (omega (arith, nearer-by v h u)) u, step-length v h u, f.falls v h u))
      (λ e. omega (arith, root-way lengths fars p v (ltb-false _ _ e)))

  pub way-low : (v : ℕ) → v < point_bound → way_length lengths fars p v ≤ get_or fars v 0
  way-low v h = low-to (away v) v (omega arith) h

-- a step makes the distance smaller: of distances and parents alone
pub falls-nearing : {lengths fars : List ℕ} {p : Parents} → Falls lengths fars p → Nearing fars p.ups
falls-nearing f = record { nearer = λ v h u. omega (arith, f.falls v h u, f.some v h u) }

-- The vertices on a way

module _ (ups : List ℕ) (n v : ℕ) where
  pub climb-go : get_or ups v 0 < point_bound → climb ups (suc n) v ≡ get_or ups v 0 ∷ climb ups n (get_or ups v 0)
  unfolding climb
  climb-go h = rw (climb, lt-ltb (get_or ups v 0) point_bound h) refl

  pub climb-stop : point_bound ≤ get_or ups v 0 → climb ups (suc n) v ≡ []
  unfolding climb
  climb-stop h = rw (climb, le-ltb (get_or ups v 0) point_bound h) refl

pub climb-none : (ups : List ℕ) (n v : ℕ) → point_bound ≤ get_or ups v 0 → climb ups n v ≡ []
unfolding climb
climb-none ups zero v h = refl
climb-none ups (suc n) v h = climb-stop ups n v h

module _ (fars ups : List ℕ) (f : Nearing fars ups) where
  ended : (v : ℕ) → v < point_bound → get_or fars v 0 ≤ 0 → point_bound ≤ get_or ups v 0
  ended v h a =
      by (ltb (get_or ups v 0) point_bound)
      (λ e. absurd (let z : ⊥ = omega (arith, f.nearer v h (ltb-true _ _ e)) in z))
      (λ e. ltb-false _ _ e)

  -- as many steps as the distance are enough
  climb-enough : (n m v : ℕ) → v < point_bound → get_or fars v 0 ≤ n → get_or fars v 0 ≤ m → climb ups n v ≡ climb ups m v
  climb-enough zero m v h a b = let u = ended v h a in climb-none ups zero v u ∙ sym (climb-none ups m v u)
  climb-enough (suc n) zero v h a b = let u = ended v h b in climb-none ups (suc n) v u ∙ sym (climb-none ups zero v u)
  climb-enough (suc n) (suc m) v h a b =
      by (ltb (get_or ups v 0) point_bound)
      (λ e.
      let u = ltb-true _ _ e in
      let l = f.nearer v h u in
      climb-go ups n v u
      ∙ ap (λ (r : List ℕ). get_or ups v 0 ∷ r) (climb-enough n m (get_or ups v 0) u (omega arith) (omega arith))
      ∙ sym (climb-go ups m v u))
      (λ e. let u = ltb-false _ _ e in climb-stop ups n v u ∙ sym (climb-stop ups m v u))

  pub after-go : (v : ℕ) → v < point_bound → get_or ups v 0 < point_bound →
      way_after fars ups v ≡ get_or ups v 0 ∷ way_after fars ups (get_or ups v 0)
  unfolding way_after
  after-go v h u =
      let l = f.nearer v h u in
      let e : get_or fars v 0 ≡ suc (get_or fars v 0 - 1) = omega arith in
      ap (λ (n : ℕ). climb ups n v) e
      ∙ climb-go ups (get_or fars v 0 - 1) v u
      ∙ ap (λ (r : List ℕ). get_or ups v 0 ∷ r)
      (climb-enough (get_or fars v 0 - 1) (get_or fars (get_or ups v 0) 0) (get_or ups v 0) u (omega arith) (omega arith))

pub after_none : (fars ups : List ℕ) (v : ℕ) → point_bound ≤ get_or ups v 0 → way_after fars ups v ≡ []
unfolding way_after
after_none fars ups v h = climb-none ups (get_or fars v 0) v h
