-- When a box that grows across meets another box or a macro: four inequalities by the two numbers of a side.
-- Assumes nothing.
use mathlib.Core.Path.{◌≡◌, ap₂, ◌∙◌}
use mathlib.Core.Bool.{true, ◌&&◌}
use Prim.Native.Nat.{◌+◌}
use native.Mathlib.Omega.{arith}
use lib.IntN.{ℤ, pos, ◌-ℤ◌}
use lib.Signed.{lt_z, le_z}
use Rattle.lists.proofs.TestLaws.{and_left, and_right, and_both}
use Rattle.signed.specs.Sides.{up, down, Lt, Le}
use Rattle.signed.specs.Order.{z_min, z_max}
use Rattle.signed.proofs.SideLaws.{z_le-true, le-z_le, sub-sides, up_pos, down_pos, signed}
use Rattle.signed.proofs.OrderLaws.{min-sides, max-sides, min_comm, max_comm}
use Rattle.plane.specs.declared.Place.{Place}
use Rattle.plane.specs.declared.Macro.{Macro}
use Rattle.plane.specs.Macro.{span_meets, meets}
use Rattle.slide.specs.declared.Side.{Side}
use Rattle.slide.specs.declared.Side.TheVariants.{Above, Below, Right, Left}
use Rattle.slide.specs.Side.{along, across}
use Rattle.slide.specs.Bend.{Edge}
use Rattle.slide.specs.Sweep.{low_corner, high_corner, boxes_meet}
use Rattle.slide.specs.Stop.{starts, finishes, near_side, far_side, low_along, high_along, low_across, high_across}
use Rattle.slide.proofs.GlueLaws.{span-true, span-parts}
use Rattle.slide.proofs.AcrossLaws.{less}

-- Closed spans

abbrev Spans : ℤ → ℤ → ℤ → ℤ → Type 0
Spans p q f m = le_z (z_max (z_min p q) (z_min f m)) (z_min (z_max p q) (z_max f m)) ≡ true

abbrev Overlap : ℤ → ℤ → ℤ → ℤ → Type 0
Overlap p q f m = Le (z_min p q) m × Le f (z_max p q)

min-max : (p q : ℤ) → Le (z_min p q) (z_max p q)
min-max p q = omega (signed, min-sides p q, max-sides p q)

up_of : (p q f m : ℤ) → Le f m → Spans p q f m → Overlap p q f m
up_of p q f m l h =
    let k = z_le-true (z_max (z_min p q) (z_min f m)) (z_min (z_max p q) (z_max f m)) h in
    let u = max-sides (z_min p q) (z_min f m) in
    let v = min-sides (z_max p q) (z_max f m) in
    (omega (arith, k, u, v, l, max-sides f m), omega (arith, k, u, v, l, min-sides f m))

of-up : (p q f m : ℤ) → Le f m → Overlap p q f m → Spans p q f m
of-up p q f m l h =
    le-z_le (z_max (z_min p q) (z_min f m)) (z_min (z_max p q) (z_max f m))
    (omega (
      arith,
      h.0,
      h.1,
      l,
      min-max p q,
      max-sides (z_min p q) (z_min f m),
      min-sides (z_max p q) (z_max f m),
      max-sides f m,
      min-sides f m,
    ))

spans-comm : (p q f m : ℤ) → Spans p q f m → Spans p q m f
spans-comm p q f m h = rw (min_comm m f, max_comm m f) h

-- a number turned about zero
about : (a : ℤ) → up (pos 0 -ℤ a) + up a ≡ down a + down (pos 0 -ℤ a)
about a = omega (arith, sub-sides (pos 0) a, up_pos 0, down_pos 0)

-- the other way round, by the numbers turned about zero
turned-of : (p q f m : ℤ) → Le (pos 0 -ℤ f) (pos 0 -ℤ m) → Spans p q f m → Overlap (pos 0 -ℤ p) (pos 0 -ℤ q) (pos 0 -ℤ f) (pos 0 -ℤ m)
turned-of p q f m l h =
    let k = up_of p q m f (less f m l) (spans-comm p q f m h) in (
      omega (arith, k.1, about p, about q, about f, about m, min-sides (pos 0 -ℤ p) (pos 0 -ℤ q), max-sides p q),
      omega (arith, k.0, about p, about q, about f, about m, max-sides (pos 0 -ℤ p) (pos 0 -ℤ q), min-sides p q),
    )

of-turned : (p q f m : ℤ) → Le (pos 0 -ℤ f) (pos 0 -ℤ m) → Overlap (pos 0 -ℤ p) (pos 0 -ℤ q) (pos 0 -ℤ f) (pos 0 -ℤ m) → Spans p q f m
of-turned p q f m l h =
    spans-comm p q m f
    (of-up p q m f (less f m l) (
      omega (arith, h.1, about p, about q, about f, about m, max-sides (pos 0 -ℤ p) (pos 0 -ℤ q), min-sides p q),
      omega (arith, h.0, about p, about q, about f, about m, min-sides (pos 0 -ℤ p) (pos 0 -ℤ q), max-sides p q),
    ))

-- A box that grows from f to m

pub record Touch (s : Side) (e : Edge) (f m : Place) : Type 0 where
  pub beside : Le (low_along s e) (along s m) × Le (along s f) (high_along s e)
  pub ahead : Le (low_across s e) (across s m) × Le (across s f) (high_across s e)

both-spans : (e : Edge) (f m : Place) → boxes_meet e (f, m) ≡ true →
    Spans e.0.x e.1.x f.x m.x × Spans e.0.y e.1.y f.y m.y
unfolding boxes_meet low_corner high_corner
both-spans e f m o = (
  and_left _ (le_z (low_corner e (f, m)).y (high_corner e (f, m)).y) o,
  and_right (le_z (low_corner e (f, m)).x (high_corner e (f, m)).x) _ o,
)

pub touch : (s : Side) (e : Edge) (f m : Place) → Le (along s f) (along s m) → Le (across s f) (across s m) → boxes_meet e (f, m) ≡ true →
    Touch s e f m
unfolding along across low_along high_along low_across high_across
touch Above e f m h k o = record {
  beside = up_of e.0.x e.1.x f.x m.x h (both-spans e f m o).0;
  ahead = up_of e.0.y e.1.y f.y m.y k (both-spans e f m o).1;
}
touch Below e f m h k o = record {
  beside = up_of e.0.x e.1.x f.x m.x h (both-spans e f m o).0;
  ahead = turned-of e.0.y e.1.y f.y m.y k (both-spans e f m o).1;
}
touch Right e f m h k o = record {
  beside = up_of e.0.y e.1.y f.y m.y h (both-spans e f m o).1;
  ahead = up_of e.0.x e.1.x f.x m.x k (both-spans e f m o).0;
}
touch Left e f m h k o = record {
  beside = up_of e.0.y e.1.y f.y m.y h (both-spans e f m o).1;
  ahead = turned-of e.0.x e.1.x f.x m.x k (both-spans e f m o).0;
}

pub touched : (s : Side) (e : Edge) (f m : Place) → Le (along s f) (along s m) → Le (across s f) (across s m) → Touch s e f m →
    boxes_meet e (f, m) ≡ true
unfolding boxes_meet low_corner high_corner along across low_along high_along low_across high_across
touched Above e f m h k t = and_both _ _ (of-up e.0.x e.1.x f.x m.x h t.beside)
    (of-up e.0.y e.1.y f.y m.y k t.ahead)
touched Below e f m h k t = and_both _ _ (of-up e.0.x e.1.x f.x m.x h t.beside)
    (of-turned e.0.y e.1.y f.y m.y k t.ahead)
touched Right e f m h k t = and_both _ _ (of-up e.0.x e.1.x f.x m.x k t.ahead)
    (of-up e.0.y e.1.y f.y m.y h t.beside)
touched Left e f m h k t = and_both _ _ (of-turned e.0.x e.1.x f.x m.x k t.ahead)
    (of-up e.0.y e.1.y f.y m.y h t.beside)

-- A macro

pub record Hit (s : Side) (f m : Place) (k : Macro) : Type 0 where
  pub beside : Lt (along s f) (finishes s k) × Lt (starts s k) (along s m)
  pub ahead : Lt (across s f) (far_side s k) × Lt (near_side s k) (across s m)

spans-turned : (a b from to : ℤ) → span_meets a b from to ≡ span_meets b a from to
unfolding span_meets
spans-turned a b from to = ap₂ (λ (l h : ℤ). lt_z l to && lt_z from h) (min_comm a b) (max_comm a b)

turned-hit : (f m from to : ℤ) → Le (pos 0 -ℤ f) (pos 0 -ℤ m) → span_meets f m from to ≡ true →
    Lt (pos 0 -ℤ f) (pos 0 -ℤ from) × Lt (pos 0 -ℤ to) (pos 0 -ℤ m)
turned-hit f m from to l h =
    let k = span-parts m f from to (less f m l) (spans-turned m f from to ∙ h) in
    (omega (arith, k.1, about f, about m, about from, about to), omega (arith, k.0, about f, about m, about from, about to))

hit-turned : (f m from to : ℤ) → Le (pos 0 -ℤ f) (pos 0 -ℤ m) →
    Lt (pos 0 -ℤ f) (pos 0 -ℤ from) × Lt (pos 0 -ℤ to) (pos 0 -ℤ m) → span_meets f m from to ≡ true
hit-turned f m from to l h =
    spans-turned f m from to ∙ span-true m f from to (less f m l) (omega (arith, h.1, about f, about m, about from, about to))
    (omega (arith, h.0, about f, about m, about from, about to))

pub hit : (s : Side) (f m : Place) (k : Macro) → Le (along s f) (along s m) → Le (across s f) (across s m) → meets f m k ≡ true →
    Hit s f m k
unfolding meets along across starts finishes near_side far_side
hit Above f m k h g o = record {
  beside = span-parts _ _ _ _ h (and_left _ _ o);
  ahead = span-parts _ _ _ _ g (and_right (span_meets f.x m.x _ _) _ o);
}
hit Below f m k h g o = record {
  beside = span-parts _ _ _ _ h (and_left _ _ o);
  ahead = turned-hit _ _ _ _ g (and_right (span_meets f.x m.x _ _) _ o);
}
hit Right f m k h g o = record {
  beside = span-parts _ _ _ _ h (and_right (span_meets f.x m.x _ _) _ o);
  ahead = span-parts _ _ _ _ g (and_left _ _ o);
}
hit Left f m k h g o = record {
  beside = span-parts _ _ _ _ h (and_right (span_meets f.x m.x _ _) _ o);
  ahead = turned-hit _ _ _ _ g (and_left _ _ o);
}

pub hits : (s : Side) (f m : Place) (k : Macro) → Le (along s f) (along s m) → Le (across s f) (across s m) → Hit s f m k →
    meets f m k ≡ true
unfolding meets along across starts finishes near_side far_side
hits Above f m k h g o = and_both _ _ (span-true _ _ _ _ h o.beside.0 o.beside.1) (span-true _ _ _ _ g o.ahead.0 o.ahead.1)
hits Below f m k h g o = and_both _ _ (span-true _ _ _ _ h o.beside.0 o.beside.1) (hit-turned _ _ _ _ g o.ahead)
hits Right f m k h g o = and_both _ _ (span-true _ _ _ _ g o.ahead.0 o.ahead.1) (span-true _ _ _ _ h o.beside.0 o.beside.1)
hits Left f m k h g o = and_both _ _ (hit-turned _ _ _ _ g o.ahead) (span-true _ _ _ _ h o.beside.0 o.beside.1)
