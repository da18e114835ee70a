-- What a shift of the plane keeps: the order of places, differences, middles, quadrants, interiors, and what is clear.
-- Assumes nothing.
use mathlib.Core.Path.{◌≡◌, refl, sym, ap, ap₂, ◌∙◌}
use mathlib.Core.Bool.{Bool, true, false, not, ◌&&◌, ◌||◌}
use mathlib.Core.List.{List, [], ◌∷◌, map}
use Prim.Native.Nat.{ℕ, ◌+◌, ◌*◌}
use native.Mathlib.Omega.{arith}
use lib.IntN.{ℤ, ◌+ℤ◌, ◌-ℤ◌, neg_ℤ, nat_abs}
use lib.Signed.{lt_z, le_z}
use Rattle.lists.specs.Any.{any}
use Rattle.lists.proofs.TestLaws.{by, differ}
use Rattle.signed.specs.Sides.{up, down}
use Rattle.signed.specs.Order.{z_min, z_max, z_eq}
use Rattle.signed.proofs.OrderLaws.{z_eq-true, z_eq-refl}
use Rattle.signed.proofs.SideLaws.{z_lt-true, z_lt-false, z_le-true, z_le-false, lt-z_lt, le-z_lt, le-z_le, lt-z_le, eq_of, add-sides, sub-sides}
use Rattle.plane.specs.declared.Place.{Place}
use Rattle.plane.specs.declared.Macro.{Macro}
use Rattle.plane.specs.declared.Weights.{Weights}
use Rattle.plane.specs.Place.{place, before, same_place}
use Rattle.plane.specs.Distance.{apart, distance}
use Rattle.plane.specs.Cost.{cost}
use Rattle.plane.specs.Middle.{middle, middle_place}
use Rattle.plane.specs.Macro.{inside, span_meets, meets, open_spans_meet, interiors_meet, clear}
use Rattle.site.specs.Shift.{shift, shift_macro}

-- Numbers

module _ (d : ℤ) where
  pub lt-there : (a b : ℤ) → lt_z (a +ℤ d) (b +ℤ d) ≡ lt_z a b
  lt-there a b =
      by (lt_z a b) (λ t. lt-z_lt (a +ℤ d) (b +ℤ d) (omega (arith, z_lt-true a b t, add-sides a d, add-sides b d)) ∙ sym t)
      (λ t. le-z_lt (a +ℤ d) (b +ℤ d) (omega (arith, z_lt-false a b t, add-sides a d, add-sides b d)) ∙ sym t)

  pub le-there : (a b : ℤ) → le_z (a +ℤ d) (b +ℤ d) ≡ le_z a b
  le-there a b =
      by (le_z a b) (λ t. le-z_le (a +ℤ d) (b +ℤ d) (omega (arith, z_le-true a b t, add-sides a d, add-sides b d)) ∙ sym t)
      (λ t. lt-z_le (a +ℤ d) (b +ℤ d) (omega (arith, z_le-false a b t, add-sides a d, add-sides b d)) ∙ sym t)

  pub min-there : (a b : ℤ) → z_min (a +ℤ d) (b +ℤ d) ≡ z_min a b +ℤ d
  unfolding z_min
  min-there a b =
      by (le_z a b) (λ t. let s : le_z (a +ℤ d) (b +ℤ d) ≡ true = le-there a b ∙ t in rw (z_min, s, t) refl)
      (λ t. let s : le_z (a +ℤ d) (b +ℤ d) ≡ false = le-there a b ∙ t in rw (z_min, s, t) refl)

  pub max-there : (a b : ℤ) → z_max (a +ℤ d) (b +ℤ d) ≡ z_max a b +ℤ d
  unfolding z_max
  max-there a b =
      by (le_z a b) (λ t. let s : le_z (a +ℤ d) (b +ℤ d) ≡ true = le-there a b ∙ t in rw (z_max, s, t) refl)
      (λ t. let s : le_z (a +ℤ d) (b +ℤ d) ≡ false = le-there a b ∙ t in rw (z_max, s, t) refl)

  middle-there : (a b c : ℤ) → middle (a +ℤ d) (b +ℤ d) (c +ℤ d) ≡ middle a b c +ℤ d
  unfolding middle
  middle-there a b c =
      ap₂ z_max (min-there a b) (ap (λ (z : ℤ). z_min z (c +ℤ d)) (max-there a b) ∙ min-there (z_max a b) c)
      ∙ max-there (z_min a b) (z_min (z_max a b) c)

  pub apart-there : (a b : ℤ) → apart (a +ℤ d) (b +ℤ d) ≡ apart a b
  unfolding apart
  apart-there a b =
      ap nat_abs (eq_of ((a +ℤ d) -ℤ (b +ℤ d)) (a -ℤ b)
      (omega (arith, sub-sides (a +ℤ d) (b +ℤ d), sub-sides a b, add-sides a d, add-sides b d)))

  span-there : (a b l r : ℤ) → span_meets (a +ℤ d) (b +ℤ d) (l +ℤ d) (r +ℤ d) ≡ span_meets a b l r
  unfolding span_meets
  span-there a b l r =
      ap₂ ◌&&◌ (ap (λ (z : ℤ). lt_z z (r +ℤ d)) (min-there a b) ∙ lt-there (z_min a b) r)
      (ap (lt_z (l +ℤ d)) (max-there a b) ∙ lt-there l (z_max a b))

  open-there : (a b c e : ℤ) → open_spans_meet (a +ℤ d) (b +ℤ d) (c +ℤ d) (e +ℤ d) ≡ open_spans_meet a b c e
  unfolding open_spans_meet
  open-there a b c e = ap₂ lt_z (max-there a c) (min-there b e) ∙ lt-there (z_max a c) (z_min b e)

  pub eq-there : (a b : ℤ) → z_eq (a +ℤ d) (b +ℤ d) ≡ z_eq a b
  eq-there a b =
      by (z_eq a b) (λ t. ap (λ (z : ℤ). z_eq (z +ℤ d) (b +ℤ d)) (z_eq-true a b t) ∙ z_eq-refl (b +ℤ d) ∙ sym t) λ t.
      by (z_eq (a +ℤ d) (b +ℤ d))
      (λ r.
      let e : a +ℤ d ≡ b +ℤ d = z_eq-true (a +ℤ d) (b +ℤ d) r in
      let u : a ≡ b = eq_of a b (omega (arith, add-sides a d, add-sides b d, ap up e, ap down e)) in
      differ (ap (z_eq a) (sym u) ∙ z_eq-refl a) t)
      (λ r. r ∙ sym t)

-- a shift forth and back
pub add-neg : (d a : ℤ) → (a +ℤ d) +ℤ neg_ℤ d ≡ a
add-neg d a = eq_of ((a +ℤ d) +ℤ neg_ℤ d) a (omega (arith, sub-sides (a +ℤ d) d, add-sides a d))

pub neg-add : (d a : ℤ) → (a +ℤ neg_ℤ d) +ℤ d ≡ a
neg-add d a = eq_of ((a +ℤ neg_ℤ d) +ℤ d) a (omega (arith, add-sides (a +ℤ neg_ℤ d) d, sub-sides a d))

-- Places and macros

module _ (dx dy : ℤ) where
  pub before-there : (p q : Place) → before (shift dx dy p) (shift dx dy q) ≡ before p q
  unfolding before
  before-there p q =
      by (lt_z p.x q.x)
      (λ t. let s : lt_z (p.x +ℤ dx) (q.x +ℤ dx) ≡ true = lt-there dx p.x q.x ∙ t in rw (before, s, t) refl) λ t.
      let s : lt_z (p.x +ℤ dx) (q.x +ℤ dx) ≡ false = lt-there dx p.x q.x ∙ t in
      by (lt_z q.x p.x)
      (λ r. let v : lt_z (q.x +ℤ dx) (p.x +ℤ dx) ≡ true = lt-there dx q.x p.x ∙ r in rw (before, s, v, t, r) refl) λ r.
      let v : lt_z (q.x +ℤ dx) (p.x +ℤ dx) ≡ false = lt-there dx q.x p.x ∙ r in
      rw (before, s, v, t, r) (lt-there dy p.y q.y)

  pub same-there : (p q : Place) → same_place (shift dx dy p) (shift dx dy q) ≡ same_place p q
  unfolding same_place
  same-there p q = ap₂ ◌&&◌ (eq-there dx p.x q.x) (eq-there dy p.y q.y)

  pub cost-there : (w : Weights) (p q : Place) → cost w (shift dx dy p) (shift dx dy q) ≡ cost w p q
  unfolding cost
  cost-there w p q =
      ap₂ (λ (m n : ℕ). m * w.across + n * w.along) (apart-there dx p.x q.x) (apart-there dy p.y q.y)

  pub middle-place-there : (a b u : Place) →
      middle_place (shift dx dy a) (shift dx dy b) (shift dx dy u) ≡ shift dx dy (middle_place a b u)
  unfolding middle_place
  middle-place-there a b u = ap₂ place (middle-there dx a.x b.x u.x) (middle-there dy a.y b.y u.y)

  pub inside-there : (p : Place) (m : Macro) → inside (shift dx dy p) (shift_macro dx dy m) ≡ inside p m
  unfolding inside
  inside-there p m =
      ap₂ ◌&&◌ (ap₂ ◌&&◌ (lt-there dx m.left p.x) (lt-there dx p.x m.right))
      (ap₂ ◌&&◌ (lt-there dy m.bottom p.y) (lt-there dy p.y m.top))

  pub interiors-there : (m n : Macro) → interiors_meet (shift_macro dx dy m) (shift_macro dx dy n) ≡ interiors_meet m n
  unfolding interiors_meet
  interiors-there m n =
      ap₂ ◌&&◌ (open-there dx m.left m.right n.left n.right) (open-there dy m.bottom m.top n.bottom n.top)

  meets-there : (p q : Place) (m : Macro) → meets (shift dx dy p) (shift dx dy q) (shift_macro dx dy m) ≡ meets p q m
  unfolding meets
  meets-there p q m = ap₂ ◌&&◌ (span-there dx p.x q.x m.left m.right) (span-there dy p.y q.y m.bottom m.top)

  any-meets : (p q : Place) (ms : List Macro) → any (meets (shift dx dy p) (shift dx dy q)) (map (shift_macro dx dy) ms) ≡ any (meets p q) ms
  unfolding any
  any-meets p q [] = refl
  any-meets p q (m ∷ ms) = ap₂ ◌||◌ (meets-there p q m) (any-meets p q ms)

  pub clear-there : (p q : Place) (ms : List Macro) → clear (shift dx dy p) (shift dx dy q) (map (shift_macro dx dy) ms) ≡ clear p q ms
  unfolding clear
  clear-there p q ms = ap not (any-meets p q ms)
