-- Each test of the product about interiors passes exactly when a point, fractions included, lies in both of two sets.
-- A point of whatever denominator shows it (`..-any`), and where the test passes there is one with whole or half
-- coordinates. Both go axis by axis.
-- Assumes nothing.
use mathlib.Core.Path.{◌≡◌, refl, sym, ap, ◌∙◌}
use mathlib.Core.Bool.{true, ◌&&◌}
use mathlib.Core.Logic.{◌↔◌}
use mathlib.Core.List.{List}
use Prim.Native.Nat.{ℕ, ◌*◌, ◌≤◌}
use native.Mathlib.Nat.{one-le-mul}
use native.Mathlib.Omega.{arith}
use lib.IntN.{ℤ, pos, ◌+ℤ◌, ◌*ℤ◌}
use lib.Signed.{lt_z}
use Rattle.lists.specs.Member.{◌∈◌}
use Rattle.lists.proofs.TestLaws.{differ, not-true, and_left, and_right, and_both}
use Rattle.lists.proofs.AnyLaws.{any_none}
use Rattle.signed.specs.Sides.{Lt}
use Rattle.signed.proofs.SideLaws.{z_lt-true, add-sides, up_pos, down_pos, signed}
use Rattle.plane.specs.declared.Place.{Place}
use Rattle.plane.specs.declared.Macro.{Macro}
use Rattle.plane.specs.Macro.{inside, span_meets, meets, open_spans_meet, interiors_meet, clear}
use Rattle.plane.proofs.MeetLaws.{clear_of}
use Rattle.net.specs.Allowed.{Upright}
use Rattle.interior.specs.Interior.{PlanePoint, SamePoint, point_of, Interior, Box, Some, Common}
use Rattle.interior.proofs.ScaleLaws.{times-times, times-swap}
use Rattle.interior.proofs.SpanLaws.{closed-open, open-open, open_order, span-middle}
use Rattle.interior.proofs.SpanLaws.{closed-open-share, open-open-share, whole_open, same-open, same-closed}

-- the point (x / 2, y / 2)
abbrev halves : ℤ → ℤ → PlanePoint
halves x y = record { x = x; y = y; over = 2; positive = omega arith }

-- A box and an interior

-- a point of whatever denominator in both: the test passes
pub box-meets-any : (a b : Place) (m : Macro) (q : PlanePoint) → Box a b q → Interior m q → meets a b m ≡ true
unfolding meets
box-meets-any a b m q i o =
    and_both _ _
    (closed-open _ _ _ _ _ _ i.across o.across)
    (closed-open _ _ _ _ _ _ i.along o.along)

-- the test passes exactly when a point with whole or half coordinates lies in both
pub box-meets : (a b : Place) (m : Macro) → Upright m → (meets a b m ≡ true) ↔ Common 2 (Box a b) (Interior m)
unfolding meets
box-meets a b m u = (
  (λ h.
      let s = closed-open-share _ _ _ _ u.across (and_left _ (span_meets a.y b.y m.bottom m.top) h) in
      let t = closed-open-share _ _ _ _ u.along (and_right (span_meets a.x b.x m.left m.right) _ h) in
      record {
        point = halves s.0 t.0;
        over = refl;
        lies = (record { across = s.1; along = t.1 }, record { across = s.2; along = t.2 });
      }),
  (λ c. box-meets-any a b m c.point c.lies.0 c.lies.1),
)

-- Two interiors

pub interiors-meet-any : (m n : Macro) (q : PlanePoint) → Interior m q → Interior n q → interiors_meet m n ≡ true
unfolding interiors_meet
interiors-meet-any m n q i j =
    and_both _ _
    (open-open _ _ _ _ _ _ i.across j.across)
    (open-open _ _ _ _ _ _ i.along j.along)

-- the macros need not be known to be upright: where the test passes they are
pub interiors-meet : (m n : Macro) → (interiors_meet m n ≡ true) ↔ Common 2 (Interior m) (Interior n)
unfolding interiors_meet
interiors-meet m n = (
  (λ h.
      let s = open-open-share _ _ _ _ (and_left _ (open_spans_meet m.bottom m.top n.bottom n.top) h) in
      let t = open-open-share _ _ _ _ (and_right (open_spans_meet m.left m.right n.left n.right) _ h) in
      record {
        point = halves s.0 t.0;
        over = refl;
        lies = (record { across = s.1; along = t.1 }, record { across = s.2; along = t.2 });
      }),
  (λ c. interiors-meet-any m n c.point c.lies.0 c.lies.1),
)

-- One interior

-- an upright macro's interior holds the macro's middle, also where the macro is one unit wide
pub not-empty : (m : Macro) → Upright m → Some 2 (Interior m)
not-empty m u = record {
  point = halves (m.left +ℤ m.right) (m.bottom +ℤ m.top);
  over = refl;
  lies = record { across = span-middle _ _ u.across; along = span-middle _ _ u.along };
}

-- a macro whose interior holds any point is upright
pub holds-upright : (m : Macro) (q : PlanePoint) → Interior m q → Upright m
holds-upright m q i = record { across = open_order _ _ _ _ i.across; along = open_order _ _ _ _ i.along }

-- in a macro one unit wide lies no place: its interior is all fractions
pub unit-wide : (p : Place) (m : Macro) → m.right ≡ m.left +ℤ pos 1 → inside p m ≡ true → ⊥
unfolding inside
unit-wide p m e h =
    let a = and_left _ (lt_z m.bottom p.y && lt_z p.y m.top) h in
    let l : Lt m.left p.x = z_lt-true _ _ (and_left _ (lt_z p.x m.right) a) in
    let r : Lt p.x m.right = z_lt-true _ _ (and_right (lt_z m.left p.x) _ a) in
    omega (signed, rw e at r, add-sides m.left (pos 1), up_pos 1, down_pos 1)

-- a place passes the test exactly when it lies in the interior, over whatever denominator it is written
pub place_inside : (p : Place) (m : Macro) (d : ℕ) (h : 1 ≤ d) → (inside p m ≡ true) ↔ Interior m (point_of p d h)
unfolding inside
place_inside p m d h =
    let x = whole_open p.x d m.left m.right h in
    let y = whole_open p.y d m.bottom m.top h in (
      (λ i. record {
        across = x.0 (and_left _ (lt_z m.bottom p.y && lt_z p.y m.top) i);
        along = y.0 (and_right (lt_z m.left p.x && lt_z p.x m.right) _ i);
      }),
      (λ i. and_both _ _ (x.1 i.across) (y.1 i.along)),
    )

-- Clear of each other

-- it is enough that no point with whole or half coordinates lies in the box and in an interior
pub clear_halves : (a b : Place) (ms : List Macro) → ((m : Macro) → m ∈ ms → Upright m)
    → ((m : Macro) → m ∈ ms → Common 2 (Box a b) (Interior m) → ⊥) → clear a b ms ≡ true
clear_halves a b ms u h = clear_of a b ms (λ m i e. h m i ((box-meets a b m (u m i)).0 e))

-- two places are clear of each other exactly when no point at all lies in their box and in the interior of a macro
pub clear-points : (a b : Place) (ms : List Macro) → ((m : Macro) → m ∈ ms → Upright m)
    → (clear a b ms ≡ true) ↔ ((m : Macro) → m ∈ ms → (q : PlanePoint) → Box a b q → Interior m q → ⊥)
unfolding clear
clear-points a b ms u = (
  (λ h m i q k o. differ (box-meets-any a b m q k o) (any_none (meets a b) ms (not-true _ h) m i)),
  (λ h. clear_halves a b ms u (λ m i c. h m i c.point c.lies.0 c.lies.1)),
)

-- One point over two denominators

-- the set holds a point in whatever way it is written
abbrev pub Respects : (PlanePoint → Type 0) → Type 0
Respects S = (q r : PlanePoint) → SamePoint q r → S q → S r

pub same-interior : (m : Macro) → Respects (Interior m)
same-interior m q r s i = record {
  across = same-open _ _ _ _ _ _ q.positive r.positive s.across i.across;
  along = same-open _ _ _ _ _ _ q.positive r.positive s.along i.along;
}

pub same-box : (a b : Place) → Respects (Box a b)
same-box a b q r s i = record {
  across = same-closed _ _ _ _ _ _ q.positive r.positive s.across i.across;
  along = same-closed _ _ _ _ _ _ q.positive r.positive s.along i.along;
}

-- a point over k times its denominator
abbrev finer : (q : PlanePoint) (k : ℕ) → 1 ≤ k → PlanePoint
finer q k h = record {
  x = q.x *ℤ pos k;
  y = q.y *ℤ pos k;
  over = q.over * k;
  positive = one-le-mul q.positive h;
}

finer-same : (q : PlanePoint) (k : ℕ) (h : 1 ≤ k) → SamePoint q (finer q k h)
finer-same q k h = record {
  across = sym (times-swap q.x k q.over ∙ times-times q.x q.over k);
  along = sym (times-swap q.y k q.over ∙ times-times q.y q.over k);
}

common-finer : (S T : PlanePoint → Type 0) → Respects S → Respects T → (d k : ℕ) → 1 ≤ k → Common d S T → Common (d * k) S T
common-finer S T s t d k h c =
    let e = finer-same c.point k h in record {
      point = finer c.point k h;
      over = ap (λ (n : ℕ). n * k) c.over;
      lies = (s _ _ e c.lies.0, t _ _ e c.lies.1);
    }

-- so each even denominator finds what halves find, and by `..-any` none finds more
pub box-meets-even : (a b : Place) (m : Macro) → Upright m → (k : ℕ) → 1 ≤ k
    → (meets a b m ≡ true) ↔ Common (2 * k) (Box a b) (Interior m)
box-meets-even a b m u k h = (
  (λ e. common-finer (Box a b) (Interior m) (same-box a b) (same-interior m) 2 k h ((box-meets a b m u).0 e)),
  (λ c. box-meets-any a b m c.point c.lies.0 c.lies.1),
)

pub interiors-meet-even : (m n : Macro) (k : ℕ) → 1 ≤ k
    → (interiors_meet m n ≡ true) ↔ Common (2 * k) (Interior m) (Interior n)
interiors-meet-even m n k h = (
  (λ e. common-finer (Interior m) (Interior n) (same-interior m) (same-interior n) 2 k h ((interiors-meet m n).0 e)),
  (λ c. interiors-meet-any m n c.point c.lies.0 c.lies.1),
)
