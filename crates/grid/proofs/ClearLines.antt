-- A clear unit step makes the grid edge beside it clear: a macro that met the edge would have its sides on lines, so it would reach past
-- both ends of the edge, and past the step too, as no line lies between the step and the edge.
-- Assumes nothing.
use mathlib.Core.Path.{◌≡◌}
use mathlib.Core.Bool.{true}
use mathlib.Core.List.{List}
use lib.IntN.{ℤ}
use lib.Signed.{lt_z}
use Rattle.lists.specs.Member.{◌∈◌}
use Rattle.lists.proofs.TestLaws.{by, differ, not-true}
use Rattle.lists.proofs.AnyLaws.{any_none}
use Rattle.signed.specs.Sides.{Lt, Le}
use Rattle.signed.proofs.SideLaws.{z_lt-true, signed}
use Rattle.plane.specs.declared.Place.{Place}
use Rattle.plane.specs.declared.Macro.{Macro}
use Rattle.plane.specs.Place.{place}
use Rattle.plane.specs.Macro.{meets, clear}
use Rattle.plane.proofs.MeetLaws.{Hits, hits-up, hits-meets, clear_of}
use Rattle.lines.specs.Lines.{Neighbours, Sides}
use Rattle.lines.proofs.LineLaws.{About}

-- a number at a side of an open span that a line is in: the number is in it too
module _ (L : List ℤ) (b y from to : ℤ) (a : About L b y) where
  pub about-top : to ∈ L → Lt b to → Lt y to
  about-top m h = by (lt_z y to) (λ e. z_lt-true y to e) (λ e. absurd (a.below to m h (omega (signed, e))))

  pub about-bottom : from ∈ L → Lt from b → Lt from y
  about-bottom m h = by (lt_z from y) (λ e. z_lt-true from y e) (λ e. absurd (a.above from m (omega (signed, e)) h))

-- an open span that meets the one between neighbouring lines reaches past both
module _ (L : List ℤ) (lo hi from to : ℤ) (n : Neighbours L lo hi) where
  pub past-low : from ∈ L → Lt from hi → Le from lo
  past-low m h = by (lt_z lo from) (λ e. absurd (n.none from m (z_lt-true lo from e) h)) (λ e. omega (signed, e))

  pub past-high : to ∈ L → Lt lo to → Le hi to
  past-high m h = by (lt_z to hi) (λ e. absurd (n.none to m h (z_lt-true to hi e))) (λ e. omega (signed, e))

-- no macro meets a box that is clear
pub clear_none : (u v : Place) (ms : List Macro) → clear u v ms ≡ true → (m : Macro) → m ∈ ms → meets u v m ≡ true → ⊥
unfolding clear
clear_none u v ms h m i e = differ e (any_none (meets u v) ms (not-true _ h) m i)

module _ (xs ys : List ℤ) (ms : List Macro) (sides : Sides xs ys ms) where
  pub clear-across : (lo hi x0 x1 c y : ℤ) → Neighbours xs lo hi → Le lo x0 → Lt x0 x1 → Le x1 hi → About ys c y →
      clear (place x0 y) (place x1 y) ms ≡ true → clear (place lo c) (place hi c) ms ≡ true
  clear-across lo hi x0 x1 c y n h k l a free =
      clear_of (place lo c) (place hi c) ms (λ m i e. clear_none (place x0 y) (place x1 y) ms free m i (hit m i (hits m e)))
    where
      hits : (m : Macro) → meets (place lo c) (place hi c) m ≡ true → Hits lo c hi c m
      hits m e = hits-up (place lo c) (place hi c) m (omega (signed, n.rise)) (omega signed) e

      hit : (m : Macro) → m ∈ ms → Hits lo c hi c m → meets (place x0 y) (place x1 y) m ≡ true
      hit m i t = hits-meets (place x0 y) (place x1 y) m (omega (signed, k)) (omega signed) record {
        right = omega (signed, k, l, past-high xs lo hi m.left m.right n (sides.right m i) t.right);
        left = omega (signed, h, k, past-low xs lo hi m.left m.right n (sides.left m i) t.left);
        top = about-top ys c y m.bottom m.top a (sides.top m i) t.top;
        bottom = about-bottom ys c y m.bottom m.top a (sides.bottom m i) t.bottom;
      }

  pub clear-along : (lo hi y0 y1 c x : ℤ) → Neighbours ys lo hi → Le lo y0 → Lt y0 y1 → Le y1 hi → About xs c x →
      clear (place x y0) (place x y1) ms ≡ true → clear (place c lo) (place c hi) ms ≡ true
  clear-along lo hi y0 y1 c x n h k l a free =
      clear_of (place c lo) (place c hi) ms (λ m i e. clear_none (place x y0) (place x y1) ms free m i (hit m i (hits m e)))
    where
      hits : (m : Macro) → meets (place c lo) (place c hi) m ≡ true → Hits c lo c hi m
      hits m e = hits-up (place c lo) (place c hi) m (omega signed) (omega (signed, n.rise)) e

      hit : (m : Macro) → m ∈ ms → Hits c lo c hi m → meets (place x y0) (place x y1) m ≡ true
      hit m i t = hits-meets (place x y0) (place x y1) m (omega signed) (omega (signed, k)) record {
        right = about-top xs c x m.left m.right a (sides.right m i) t.right;
        left = about-bottom xs c x m.left m.right a (sides.left m i) t.left;
        top = omega (signed, k, l, past-high ys lo hi m.bottom m.top n (sides.top m i) t.top);
        bottom = omega (signed, h, k, past-low ys lo hi m.bottom m.top n (sides.bottom m i) t.bottom);
      }
