-- What the code asks of a bar is what the definitions ask.
-- Assumes nothing.
use mathlib.Core.Path.{◌≡◌, refl, sym, ap, ap₂, ◌∙◌}
use mathlib.Core.Bool.{Bool, true, false, not, ◌&&◌}
use Prim.Native.Nat.{ℕ, suc, ◌+◌, ◌-◌, ◌≤◌, ◌<◌}
use native.Mathlib.Omega.{arith}
use borrow.Author.Tests.{lt-ltb, le-ltb, ltb-true, ltb-false}
use lib.Dec.{ltb}
use Rattle.lists.proofs.TestLaws.{by, differ}
use Rattle.lists.specs.Sorted.{first_then}
use Rattle.plane.specs.declared.Weights.{Weights}
use Rattle.plane.specs.Place.{before, same_place}
use Rattle.plane.proofs.PlaceLaws.{same_true, same_refl, before-irrefl, before-tie}
use Rattle.slide.specs.declared.Side.{Side}
use Rattle.slide.specs.declared.Side.TheVariants.{Above, Below, Right, Left}
use Rattle.slide.specs.declared.Move.{Move}
use Rattle.slide.specs.Side.{horizontal}
use Rattle.slide.specs.Slide.{better}
use Rattle.turned.specs.declared.Spot.{Spot}
use Rattle.reach.specs.declared.Bar.{Bar}
use Rattle.turned.specs.Steps.{up_to}
use Rattle.turned.specs.Turned.{View, on_it, spot_at}
use Rattle.moves.specs.Moving.{weight_in, chosen, last_on, bar}

pub chosen_less : (t : Bool) (a b n : ℕ) → a < n → b < n → chosen t a b < n
unfolding chosen
chosen_less true a b n h k = h
chosen_less false a b n h k = k

-- the last point of a bar, looked for from the end

module _ (v : View) where
  abbrev last_next : ℕ → ℕ → ℕ
  last_next j x = chosen (on_it v j) j x

  hit : (k x : ℕ) → on_it v k ≡ true → last_next k x ≡ k
  unfolding chosen
  hit k x e = rw e refl

  miss : (k x : ℕ) → on_it v k ≡ false → last_next k x ≡ x
  unfolding chosen
  miss k x e = rw e refl

  pub last-found : (i n : ℕ) → 0 < i → on_it v (i - 1) ≡ true → up_to last_next n v.label ≡ up_to last_next i v.label
      → i - 1 ≡ last_on v n
  unfolding last_on up_to
  last-found i n h e f =
      let z : i ≡ suc (i - 1) = omega arith in
      sym (f ∙ ap (λ (j : ℕ). up_to last_next j v.label) z ∙ hit (i - 1) (up_to last_next (i - 1) v.label) e)

  pub last_missed : (i n : ℕ) → 0 < i → on_it v (i - 1) ≡ false → up_to last_next n v.label ≡ up_to last_next i v.label
      → up_to last_next n v.label ≡ up_to last_next (i - 1) v.label
  unfolding up_to
  last_missed i n h e f =
      let z : i ≡ suc (i - 1) = omega arith in
      f ∙ ap (λ (j : ℕ). up_to last_next j v.label) z ∙ miss (i - 1) (up_to last_next (i - 1) v.label) e

  pub last-none : (i n : ℕ) → i ≤ 0 → up_to last_next n v.label ≡ up_to last_next i v.label → v.label ≡ last_on v n
  unfolding last_on up_to
  last-none i n h f = let z : i ≡ 0 = omega arith in sym (f ∙ ap (λ (j : ℕ). up_to last_next j v.label) z)

pub bar-is : (v : View) (n d j : ℕ) (f l : Spot) → j ≡ last_on v n → f ≡ spot_at v v.label → l ≡ spot_at v j
    → ◌≡◌ {A = Bar} (record { side = v.side; label = v.label; first = f; last = l; most = d; top = f.across + d }) (bar v n d)
bar-is v n d j f l e p q =
    ap₂
    (λ (i k : Spot).
    let r : Bar = record { side = v.side; label = v.label; first = i; last = k; most = d; top = i.across + d } in r)
    p (q ∙ ap (spot_at v) e)

pub not-flat : (s : Side) → (s ≡ Above → ⊥) → (s ≡ Below → ⊥) → false ≡ horizontal s
unfolding horizontal
not-flat Above a b = absurd (a refl)
not-flat Below a b = absurd (b refl)
not-flat Right a b = refl
not-flat Left a b = refl

pub weigh-flat : (w : Weights) (s : Side) (t : Bool) → t ≡ horizontal s → t ≡ true → w.along ≡ weight_in w s
unfolding weight_in
weigh-flat w s t p q = rw (weight_in, sym p ∙ q) refl

pub weigh-steep : (w : Weights) (s : Side) (t : Bool) → t ≡ horizontal s → t ≡ false → w.across ≡ weight_in w s
unfolding weight_in
weigh-steep w s t p q = rw (weight_in, sym p ∙ q) refl

module _ (m n : Move) where
  pub better-more : n.saving < m.saving → true ≡ better m n
  unfolding better first_then
  better-more h = sym (rw (better, first_then, lt-ltb _ _ h) refl)

  pub better-less : m.saving < n.saving → false ≡ better m n
  unfolding better first_then
  better-less h = sym (rw (better, first_then, le-ltb n.saving m.saving (omega arith), lt-ltb _ _ h) refl)

  module _ (h : m.saving ≤ n.saving) (k : n.saving ≤ m.saving) where
    pub better-first : before m.first n.first ≡ true → true ≡ better m n
    unfolding better first_then
    better-first e = sym (rw (better, first_then, le-ltb n.saving m.saving h, le-ltb m.saving n.saving k, e) refl)

    pub better-later : before m.first n.first ≡ false → before n.first m.first ≡ true → false ≡ better m n
    unfolding better first_then
    better-later e f = sym (rw (better, first_then, le-ltb n.saving m.saving h, le-ltb m.saving n.saving k, e, f) refl)

    pub better-flat : before m.first n.first ≡ false → before n.first m.first ≡ false
        → (horizontal m.side && not (horizontal n.side)) ≡ better m n
    unfolding better first_then
    better-flat e f = sym (rw (better, first_then, le-ltb n.saving m.saving h, le-ltb m.saving n.saving k, e, f) refl)

  -- by the code's tests

  pub better-unlike : (m.saving ≡ n.saving → ⊥) → ltb n.saving m.saving ≡ better m n
  better-unlike h =
      by (ltb n.saving m.saving) (λ e. e ∙ better-more (ltb-true n.saving m.saving e))
      (λ e. e ∙ better-less (let l = ltb-false n.saving m.saving e in omega arith))

  pub better-placed : m.saving ≡ n.saving → same_place m.first n.first ≡ false → before m.first n.first ≡ better m n
  better-placed h s =
      by (before m.first n.first) (λ e. e ∙ better-first (omega arith) (omega arith) e)
      (λ e.
      let f : before n.first m.first ≡ true =
      by (before n.first m.first) (λ g. g)
      (λ g. differ (ap (same_place m.first) (sym (before-tie m.first n.first e g)) ∙ same_refl m.first) s) in
      e ∙ better-later (omega arith) (omega arith) e f)

  pub better-beside : m.saving ≡ n.saving → same_place m.first n.first ≡ true
      → (horizontal m.side && not (horizontal n.side)) ≡ better m n
  better-beside h s =
      let e = same_true m.first n.first s in
      better-flat (omega arith) (omega arith) (ap (before m.first) (sym e) ∙ before-irrefl m.first)
      (ap (before n.first) e ∙ before-irrefl n.first)
