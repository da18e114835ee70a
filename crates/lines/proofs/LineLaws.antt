-- One axis: the lines about a number, and what becomes of them when the number moves by one. A line stays about the number, or the number
-- has come to the next line.
-- Assumes nothing.
use mathlib.Core.Path.{◌≡◌}
use mathlib.Core.List.Memᴰ
use mathlib.Core.List.{List}
use Prim.Native.Nat.{◌+◌, ◌≤◌}
use lib.IntN.{ℤ}
use lib.Signed.{lt_z}
use Rattle.lists.specs.Member.{◌∈◌}
use Rattle.lists.specs.Sorted.{Order}
use Rattle.lists.proofs.TestLaws.{by}
use Rattle.lists.proofs.PermLaws.{order_same}
use Rattle.lists.proofs.MemberLaws.{is-in}
use Rattle.signed.specs.Sides.{up, down, Lt, Le}
use Rattle.signed.proofs.SideLaws.{z_lt-true, lt-z_lt, le-z_lt, eq_of, signed}
use Rattle.plane.specs.Distance.{apart}
use Rattle.plane.proofs.DistanceLaws.{apart-ordered, apart-comm, apart-triangle}
use Rattle.lines.specs.Lines.{Neighbours}

pub line-order : Order lt_z
line-order = record {
  never = λ a. le-z_lt a a (omega signed);
  along = λ a b c e f. lt-z_lt a c (omega (signed, z_lt-true a b e, z_lt-true b c f));
  tie = λ a b e f. eq_of a b (omega (signed, e, f));
}

pub line_same : Discrete ℤ
line_same = order_same line-order

-- b is the line at x, or the next one below it, or the next one above it: no line lies from b's side as near to x
pub record About (L : List ℤ) (b x : ℤ) : Type 0 where
  pub line : b ∈ L
  pub below : (c : ℤ) → c ∈ L → Lt b c → Le c x → ⊥
  pub above : (c : ℤ) → c ∈ L → Le x c → Lt c b → ⊥

pub about-itself : (L : List ℤ) (x : ℤ) → x ∈ L → About L x x
about-itself L x m = record { line = m; below = λ c i h k. omega (signed, h, k); above = λ c i h k. omega (signed, h, k) }

-- about a line there is only that line
pub about-line : (L : List ℤ) (b x : ℤ) → About L b x → x ∈ L → b ≡ x
about-line L b x a m =
    by (lt_z b x) (λ e. absurd (a.below x m (z_lt-true b x e) (omega signed)))
    (λ e. by (lt_z x b) (λ f. absurd (a.above x m (omega signed) (z_lt-true x b f))) (λ f. eq_of b x (omega (signed, e, f))))

-- x moves to y, with b about x
pub data Moved (L : List ℤ) (b x y : ℤ) : Type 0 where
  stays : About L b y → apart b y ≤ apart b x + 1 → Moved L b x y
  rises : Neighbours L b y → Le b x → Lt x y → apart b y ≡ apart b x + 1 → Moved L b x y
  falls : Neighbours L y b → Le x b → Lt y x → apart b y ≡ apart b x + 1 → Moved L b x y

-- one unit
module _ (L : List ℤ) (b x y : ℤ) (a : About L b x) (unit : apart x y ≡ 1) where
  nearly : apart b y ≤ apart b x + 1
  nearly = omega (signed, unit, apart-triangle b x y)

  -- y is a line and b is it
  come : y ∈ L → b ≡ y → Moved L b x y
  come m e = stays (rw e (about-itself L y m)) nearly

  moved_up : up y + down x ≡ up x + down y + 1 → Dec (y ∈ L) → Moved L b x y
  moved_up h (no n) = stays record {
    line = a.line;
    below = λ c i k l. by (lt_z x c) (λ e. n (Memᴰ.cast (eq_of y c (omega (signed, h, l, z_lt-true x c e))) i))
        (λ e. a.below c i k (omega (signed, e)));
    above = λ c i k l. a.above c i (omega (signed, h, k)) l;
  } nearly
  moved_up h (yes m) =
      by (lt_z b y)
      (λ e. rises record {
        first = a.line;
        second = m;
        rise = z_lt-true b y e;
        none = λ c i k l. a.below c i k (omega (signed, h, l));
      } (omega (signed, h, e)) (omega (signed, h))
      (omega (signed, h, apart-ordered b x (omega (signed, h, e)), apart-ordered b y (omega (signed, e)))))
      (λ e. by (lt_z y b) (λ f. absurd (a.above y m (omega (signed, h)) (z_lt-true y b f))) (λ f. come m (eq_of b y (omega (signed, e, f)))))

  moved_down : up x + down y ≡ up y + down x + 1 → Dec (y ∈ L) → Moved L b x y
  moved_down h (no n) = stays record {
    line = a.line;
    below = λ c i k l. a.below c i k (omega (signed, h, l));
    above = λ c i k l. by (lt_z c x) (λ e. n (Memᴰ.cast (eq_of y c (omega (signed, h, k, z_lt-true c x e))) i))
        (λ e. a.above c i (omega (signed, e)) l);
  } nearly
  moved_down h (yes m) =
      by (lt_z y b)
      (λ e. falls record {
        first = m;
        second = a.line;
        rise = z_lt-true y b e;
        none = λ c i k l. a.above c i (omega (signed, h, k)) l;
      } (omega (signed, h, e)) (omega (signed, h))
      (omega (signed, h, apart-comm b x, apart-comm b y, apart-ordered x b (omega (signed, h, e)), apart-ordered y b (omega (signed, e)))))
      (λ e. by (lt_z b y) (λ f. absurd (a.below y m (z_lt-true b y f) (omega (signed, h)))) (λ f. come m (eq_of b y (omega (signed, e, f)))))

  pub moved : Moved L b x y
  moved =
      by (lt_z x y)
      (λ e. moved_up (omega (signed, unit, apart-ordered x y (omega (signed, e)))) (is-in line_same y L))
      (λ e. moved_down (omega (signed, unit, apart-comm x y, apart-ordered y x (omega (signed, e)))) (is-in line_same y L))
