-- Interiors and boxes on one axis. A fraction that lies in two spans shows that they meet: its denominator is divided
-- out of the inequalities. Spans that meet both hold the middle of what they share, and the middle of two whole numbers
-- is whole or half.
-- Assumes nothing.
use mathlib.Core.Path.{◌≡◌}
use mathlib.Core.Bool.{true, ◌&&◌}
use mathlib.Core.Logic.{◌↔◌}
use Prim.Native.Nat.{ℕ, ◌≤◌}
use lib.IntN.{ℤ, pos, ◌+ℤ◌, ◌*ℤ◌}
use lib.Signed.{lt_z}
use Rattle.lists.proofs.TestLaws.{and_left, and_right, and_both}
use Rattle.signed.specs.Sides.{Lt, Le}
use Rattle.signed.specs.Order.{z_min, z_max}
use Rattle.signed.proofs.SideLaws.{z_lt-true, lt-z_lt, le-z_le, add-sides, signed}
use Rattle.signed.proofs.OrderLaws.{min-sides, max-sides}
use Rattle.plane.specs.Macro.{span_meets, open_spans_meet}
use Rattle.interior.specs.Interior.{InOpenSpan, InClosedSpan}
use Rattle.interior.proofs.ScaleLaws.{times-sides, lt-times, times-lt, lt-equal, gt-equal, le-equal, ge-equal}

-- From a point to the test

pub closed-open : (n : ℤ) (d : ℕ) (a b from to : ℤ)
    → InClosedSpan n d a b → InOpenSpan n d from to → span_meets a b from to ≡ true
unfolding span_meets
closed-open n d a b from to i o =
    and_both _ _
    (lt-z_lt _ _ (times-lt (z_min a b) to d (omega signed)))
    (lt-z_lt _ _ (times-lt from (z_max a b) d (omega signed)))

pub open-open : (n : ℤ) (d : ℕ) (a b c e : ℤ) → InOpenSpan n d a b → InOpenSpan n d c e → open_spans_meet a b c e ≡ true
unfolding open_spans_meet
open-open n d a b c e i j =
    let ab : Lt a b = times-lt a b d (omega signed) in
    let ae : Lt a e = times-lt a e d (omega signed) in
    let cb : Lt c b = times-lt c b d (omega signed) in
    let ce : Lt c e = times-lt c e d (omega signed) in
    lt-z_lt (z_max a c) (z_min b e) (omega (signed, max-sides a c, min-sides b e))

pub open_order : (n : ℤ) (d : ℕ) (from to : ℤ) → InOpenSpan n d from to → lt_z from to ≡ true
open_order n d from to i = lt-z_lt _ _ (times-lt from to d (omega signed))

-- From the test to a point

-- the middle of low and high, over 2
module _ (low high : ℤ) where
  closed-middle : (a b : ℤ) → Le (z_min a b) low → Le low high → Le high (z_max a b) → InClosedSpan (low +ℤ high) 2 a b
  closed-middle a b h i j = omega (signed, add-sides low high, times-sides (z_min a b) 2, times-sides (z_max a b) 2)

  open-middle : (from to : ℤ) → Le from low → Lt from high → Lt low to → Le high to → InOpenSpan (low +ℤ high) 2 from to
  open-middle from to h i j k = omega (signed, add-sides low high, times-sides from 2, times-sides to 2)

pub span-middle : (from to : ℤ) → lt_z from to ≡ true → InOpenSpan (from +ℤ to) 2 from to
span-middle from to u = open-middle from to from to (omega signed) (omega signed) (omega signed) (omega signed)

pub closed-open-share : (a b from to : ℤ) → lt_z from to ≡ true → span_meets a b from to ≡ true
    → (n : ℤ) × InClosedSpan n 2 a b × InOpenSpan n 2 from to
unfolding span_meets
closed-open-share a b from to u h =
    let low = z_max (z_min a b) from in
    let high = z_min (z_max a b) to in
    let l : Lt (z_min a b) to = z_lt-true _ _ (and_left _ (lt_z from (z_max a b)) h) in
    let r : Lt from (z_max a b) = z_lt-true _ _ (and_right (lt_z (z_min a b) to) _ h) in
    let e : Le (z_min a b) (z_max a b) = omega (signed, min-sides a b, max-sides a b) in
    let s = max-sides (z_min a b) from in
    let t = min-sides (z_max a b) to in (
      low +ℤ high,
      closed-middle low high a b (omega signed) (omega signed) (omega signed),
      open-middle low high from to (omega signed) (omega signed) (omega signed) (omega signed),
    )

pub open-open-share : (a b c e : ℤ) → open_spans_meet a b c e ≡ true → (n : ℤ) × InOpenSpan n 2 a b × InOpenSpan n 2 c e
unfolding open_spans_meet
open-open-share a b c e h =
    let low = z_max a c in
    let high = z_min b e in
    let l = z_lt-true low high h in
    let s = max-sides a c in
    let t = min-sides b e in (
      low +ℤ high,
      open-middle low high a b (omega signed) (omega signed) (omega signed) (omega signed),
      open-middle low high c e (omega signed) (omega signed) (omega signed) (omega signed),
    )

-- Whole numbers, and one number over two denominators

-- the whole number n, written over d
pub whole_open : (n : ℤ) (d : ℕ) (from to : ℤ) → 1 ≤ d
    → ((lt_z from n && lt_z n to) ≡ true) ↔ InOpenSpan (n *ℤ pos d) d from to
whole_open n d from to p = (
  (λ h.
      let l : Lt from n = z_lt-true _ _ (and_left _ (lt_z n to) h) in
      let r : Lt n to = z_lt-true _ _ (and_right (lt_z from n) _ h) in
      omega (signed, lt-times from n d p l, lt-times n to d p r)),
  (λ i. and_both _ _ (lt-z_lt _ _ (times-lt from n d (omega signed))) (lt-z_lt _ _ (times-lt n to d (omega signed)))),
)

-- n / d and k / e are equal: they lie in the same spans
module _ (n k : ℤ) (d e : ℕ) (a b : ℤ) (p : 1 ≤ d) (o : 1 ≤ e) (s : n *ℤ pos e ≡ k *ℤ pos d) where
  pub same-open : InOpenSpan n d a b → InOpenSpan k e a b
  same-open i = record {
    above = lt-z_lt _ _ (lt-equal a n k d e s o (omega signed));
    below = lt-z_lt _ _ (gt-equal b n k d e s o (omega signed));
  }

  pub same-closed : InClosedSpan n d a b → InClosedSpan k e a b
  same-closed i = record {
    least = le-z_le _ _ (le-equal (z_min a b) n k d e s p (omega signed));
    greatest = le-z_le _ _ (ge-equal (z_max a b) n k d e s p (omega signed));
  }
