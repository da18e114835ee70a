-- What metal costs to the box of two places: as much as to the middle of the three, the test that asks the gap across first, and how far a
-- place must lie to a side so that all beyond it are too far.
-- Assumes nothing.
use mathlib.Core.Path.{◌≡◌, refl, sym, ap₂, ◌∙◌}
use mathlib.Core.Bool.{true, false}
use mathlib.Core.List.{List}
use Prim.Native.Nat.{ℕ, ◌+◌, ◌*◌, ◌-◌, ◌≤◌, ◌<◌}
use native.Mathlib.Nat.{mul-le-mul_right}
use native.Mathlib.Omega.{arith}
use lib.IntN.{ℤ}
use lib.Signed.{lt_z}
use lib.Dec.{ltb}
use borrow.Author.Tests.{lt-ltb, le-ltb, ltb-true, ltb-false}
use Rattle.lists.proofs.TestLaws.{by}
use Rattle.signed.specs.Sides.{Le}
use Rattle.signed.specs.Order.{z_min, z_max}
use Rattle.signed.proofs.SideLaws.{eq_of, z_lt-true, lt-z_lt, le-z_lt, signed}
use Rattle.signed.proofs.OrderLaws.{min-sides, max-sides}
use Rattle.plane.specs.declared.Place.{Place}
use Rattle.plane.specs.declared.Macro.{Macro}
use Rattle.plane.specs.declared.Weights.{Weights}
use Rattle.plane.specs.Flat.{place_at}
use Rattle.plane.specs.Distance.{apart}
use Rattle.plane.specs.Middle.{middle, middle_place}
use Rattle.plane.specs.Cost.{cost}
use Rattle.plane.proofs.DistanceLaws.{apart-comm, apart-self, apart-ordered}
use Rattle.near.specs.Box.{box_of, outside, box_cost, FarLeft, FarRight}

-- std's smaller and greater of two numbers

-- The box itself

-- of two points of a table
pub box-is : (pts : List ℤ) (a b : ℕ) (p q : Place) (m : Macro) → p ≡ place_at pts a → q ≡ place_at pts b → m ≡ box_of p q →
    m ≡ box_of (place_at pts a) (place_at pts b)
box-is pts a b p q m e f g = g ∙ ap₂ box_of e f

-- its sides are in order
pub box-sides : (p q : Place) (m : Macro) → m ≡ box_of p q → Le m.left m.right
unfolding box_of
box-sides p q m e = rw e (omega (signed, min-sides p.x q.x, max-sides p.x q.x))

-- What metal to it costs

-- outside a span by as much as its nearest number is away
outside-nearest : (l h z : ℤ) → Le l h → outside l h z ≡ apart (z_max l (z_min h z)) z
unfolding outside
outside-nearest l h z i =
    by (lt_z z l)
    (λ e.
    let n : z_max l (z_min h z) ≡ l = eq_of _ _ (omega (signed, i, max-sides l (z_min h z), min-sides h z)) in
    rw (outside, e, n) refl)
    (λ e. by (lt_z h z)
    (λ f.
    let n : z_max l (z_min h z) ≡ h = eq_of _ _ (omega (signed, i, max-sides l (z_min h z), min-sides h z)) in
    rw (outside, e, f, n) refl)
    (λ f.
    let n : z_max l (z_min h z) ≡ z = eq_of _ _ (omega (signed, i, max-sides l (z_min h z), min-sides h z)) in
    rw (outside, e, f, n) (sym (apart-self z))))

outside-middle : (a b z : ℤ) → outside (z_min a b) (z_max a b) z ≡ apart (middle a b z) z
unfolding middle
outside-middle a b z = outside-nearest (z_min a b) (z_max a b) z (omega (signed, min-sides a b, max-sides a b))

-- the nearest place of the box of two places is the middle of the three
pub box-cost : (w : Weights) (a b u : Place) → box_cost w (box_of a b) u ≡ cost w (middle_place a b u) u
unfolding box_cost box_of cost middle_place
box-cost w a b u =
    ap₂ (λ (m n : ℕ). m * w.across + n * w.along) (outside-middle a.x b.x u.x) (outside-middle a.y b.y u.y)

-- the test that asks the gap across first
pub box-far : (w : Weights) (m : Macro) (u : Place) (limit x : ℕ) → x ≡ outside m.left m.right u.x * w.across → limit ≤ x →
    false ≡ ltb (box_cost w m u) limit
unfolding box_cost
box-far w m u limit x e h = sym (le-ltb (box_cost w m u) limit (omega (arith, e, h)))

pub box-near : (w : Weights) (m : Macro) (u : Place) (limit x y : ℕ) → x ≡ outside m.left m.right u.x * w.across →
    y ≡ outside m.bottom m.top u.y * w.along → x < limit → ltb y (limit - x) ≡ ltb (box_cost w m u) limit
unfolding box_cost
box-near w m u limit x y e f h =
    by (ltb y (limit - x))
    (λ t. t ∙ sym (lt-ltb (box_cost w m u) limit (omega (arith, e, f, ltb-true y (limit - x) t))))
    (λ t. t ∙ sym (le-ltb (box_cost w m u) limit (omega (arith, e, f, h, ltb-false y (limit - x) t))))

-- Far across

apart-left : (l z y : ℤ) → Le y z → lt_z z l ≡ true → apart l z ≤ apart l y
apart-left l z y h e =
    omega (
      signed,
      h,
      z_lt-true z l e,
      apart-ordered z l (omega (signed, z_lt-true z l e)),
      apart-ordered y l (omega (signed, h, z_lt-true z l e)),
      apart-comm l z,
      apart-comm l y,
    )

apart-right : (r z y : ℤ) → Le z y → lt_z r z ≡ true → apart r z ≤ apart r y
apart-right r z y h e =
    omega (
      signed,
      h,
      z_lt-true r z e,
      apart-ordered r z (omega (signed, z_lt-true r z e)),
      apart-ordered r y (omega (signed, h, z_lt-true r z e)),
    )

outside-left : (l h z : ℤ) → lt_z z l ≡ true → outside l h z ≡ apart l z
unfolding outside
outside-left l h z e = rw (outside, e) refl

pub far-left : (w : Weights) (m : Macro) (u : Place) (limit : ℕ) → lt_z u.x m.left ≡ true
    → limit ≤ apart m.left u.x * w.across → FarLeft w m u limit
unfolding box_cost
far-left w m u limit e c q h =
    let k : lt_z q.x m.left ≡ true = lt-z_lt q.x m.left (omega (signed, h, z_lt-true u.x m.left e)) in
    let a : apart m.left u.x ≤ outside m.left m.right q.x =
    rw (outside-left m.left m.right q.x k) (apart-left m.left u.x q.x h e) in
    omega (arith, c, mul-le-mul_right w.across a)

-- beyond the right side, whether the box has a left one before it or not
outside-right : (l h z : ℤ) → Le l h → lt_z h z ≡ true → outside l h z ≡ apart h z
unfolding outside
outside-right l h z i e =
    let n : lt_z z l ≡ false = le-z_lt z l (omega (signed, i, z_lt-true h z e)) in
    rw (outside, n, e) refl

pub far-right : (w : Weights) (m : Macro) (u : Place) (limit : ℕ) → lt_z m.right u.x ≡ true
    → limit ≤ apart m.right u.x * w.across → FarRight w m u limit
unfolding box_cost
far-right w m u limit e c i q h =
    let k : lt_z m.right q.x ≡ true = lt-z_lt m.right q.x (omega (signed, h, z_lt-true m.right u.x e)) in
    let a : apart m.right u.x ≤ outside m.left m.right q.x =
    rw (outside-right m.left m.right q.x i k) (apart-right m.right u.x q.x h e) in
    omega (arith, c, mul-le-mul_right w.across a)
