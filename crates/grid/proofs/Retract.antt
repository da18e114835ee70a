-- Every walk in clear unit steps to a crossing leaves a walk along the grid that costs no more. By induction on the walk, from its end: at
-- each place z of it a crossing about z is kept, on a line about z each way, with a grid walk from there; what that walk and the way from
-- the crossing to z cost together is no more than what the unit walk costs from z on.
-- Assumes nothing.
use mathlib.Core.Path.{◌≡◌, refl, sym, ap, ap₂, subst, ◌∙◌}
use mathlib.Core.Bool.{true}
use mathlib.Core.Logic.{inl, inr}
use mathlib.Core.List.{List, [], ◌∷◌}
use Prim.Native.Nat.{ℕ, ◌+◌, ◌≤◌}
use native.Mathlib.Omega.{arith}
use lib.IntN.{ℤ}
use Rattle.lists.specs.Member.{◌∈◌}
use Rattle.lists.proofs.TestLaws.{either}
use Rattle.signed.proofs.SideLaws.{signed}
use Rattle.joined.specs.Way.{long}
use Rattle.plane.specs.declared.Place.{Place}
use Rattle.plane.specs.declared.Macro.{Macro}
use Rattle.plane.specs.Place.{place}
use Rattle.plane.specs.declared.Weights.{Weights}
use Rattle.plane.specs.Distance.{apart}
use Rattle.plane.specs.Cost.{cost}
use Rattle.plane.proofs.CostLaws.{cost-self}
use Rattle.plane.specs.Macro.{clear}
use Rattle.plane.proofs.DistanceLaws.{apart-comm}
use Rattle.plane.proofs.MacroLaws.{clear_comm}
use Rattle.grid.specs.Walk.{Walk, stop, go, Within}
use Rattle.lines.specs.Lines.{Sides, Crossing, Beside, GridStep, across, along, UnitStep}
use Rattle.lines.proofs.LineLaws.{About, about-itself, about-line, Moved, stays, rises, falls, moved}
use Rattle.lines.proofs.AxisLaws.{axis-comm, axis-self, axis-one, axis-le, axis-more, unit-axes}
use Rattle.grid.proofs.ClearLines.{clear-across, clear-along}

module _ (xs ys : List ℤ) (ms : List Macro) (sides : Sides xs ys ms) (w : Weights) where
  abbrev price : Place → Place → ℕ
  price = cost w

  -- a crossing about z, and a grid walk from there to q
  record Behind (z q : Place) (n : ℕ) : Type 0 where
    pub line_x : ℤ
    pub line_y : ℤ
    pub about-x : About xs line_x z.x
    pub about-y : About ys line_y z.y
    pub points : List Place
    pub walk : Walk (GridStep xs ys ms) (place line_x line_y) points q
    pub within : long price (place line_x line_y) points + price (place line_x line_y) z ≤ n

  -- a step from z along x to z', by what becomes of the line about z'
  module _ (z t q : Place) (n : ℕ) (unit : apart z.x t.x ≡ 1) (level : z.y ≡ t.y) (free : clear z t ms ≡ true)
      (b : Behind t q n) where
    flat : place z.x t.y ≡ z
    flat = ap (λ (y : ℤ). place z.x y) (sym level)

    -- the segment from the old crossing to the new one
    edge : Beside xs z.x b.line_x → clear (place z.x b.line_y) (place b.line_x b.line_y) ms ≡ true →
        GridStep xs ys ms (place z.x b.line_y) (place b.line_x b.line_y)
    edge s c = across s refl b.about-y.line c

    crossed : Beside xs z.x b.line_x → clear (place z.x b.line_y) (place b.line_x b.line_y) ms ≡ true → z.x ∈ xs →
        apart b.line_x z.x ≡ apart b.line_x t.x + 1 → Behind z q (price z t + n)
    unfolding cost long
    crossed s c m e = record {
      line_x = z.x;
      line_y = b.line_y;
      about-x = about-itself xs z.x m;
      about-y = rw level b.about-y;
      points = place b.line_x b.line_y ∷ b.points;
      walk = go (edge s c) b.walk;
      within = rw level (omega (
        arith,
        b.within,
        axis-comm w.across z.x b.line_x,
        axis-more w.across b.line_x z.x b.line_x t.x e,
        axis-one w.across z.x t.x unit,
        axis-self w.along b.line_y,
        axis-self w.across z.x,
      ));
    }

    stepped-across : Moved xs b.line_x t.x z.x → Behind z q (price z t + n)
    unfolding cost
    stepped-across (stays a e) = record {
      line_x = b.line_x;
      line_y = b.line_y;
      about-x = a;
      about-y = rw level b.about-y;
      points = b.points;
      walk = b.walk;
      within = rw level (omega (
        arith,
        b.within,
        axis-le w.across b.line_x z.x b.line_x t.x e,
        axis-one w.across z.x t.x unit,
      ));
    }
    stepped-across (rises s h k e) =
        crossed (inr s)
        (clear_comm _ _ ms ∙ clear-across xs ys ms sides b.line_x z.x t.x z.x b.line_y t.y s h k (omega signed) b.about-y
        (clear_comm _ _ ms ∙ rw flat free))
        s.second e
    stepped-across (falls s h k e) =
        crossed (inl s)
        (clear-across xs ys ms sides z.x b.line_x z.x t.x b.line_y t.y s (omega signed) k h b.about-y (rw flat free))
        s.first e

  -- the same along y
  module _ (z t q : Place) (n : ℕ) (plumb : z.x ≡ t.x) (unit : apart z.y t.y ≡ 1) (free : clear z t ms ≡ true)
      (b : Behind t q n) where
    upright : place t.x z.y ≡ z
    upright = ap (λ (x : ℤ). place x z.y) (sym plumb)

    climbed : Beside ys z.y b.line_y → clear (place b.line_x z.y) (place b.line_x b.line_y) ms ≡ true → z.y ∈ ys →
        apart b.line_y z.y ≡ apart b.line_y t.y + 1 → Behind z q (price z t + n)
    unfolding cost long
    climbed s c m e = record {
      line_x = b.line_x;
      line_y = z.y;
      about-x = rw plumb b.about-x;
      about-y = about-itself ys z.y m;
      points = place b.line_x b.line_y ∷ b.points;
      walk = go (along s refl b.about-x.line c) b.walk;
      within = rw plumb (omega (
        arith,
        b.within,
        axis-comm w.along z.y b.line_y,
        axis-more w.along b.line_y z.y b.line_y t.y e,
        axis-one w.along z.y t.y unit,
        axis-self w.across b.line_x,
        axis-self w.along z.y,
      ));
    }

    stepped-along : Moved ys b.line_y t.y z.y → Behind z q (price z t + n)
    unfolding cost
    stepped-along (stays a e) = record {
      line_x = b.line_x;
      line_y = b.line_y;
      about-x = rw plumb b.about-x;
      about-y = a;
      points = b.points;
      walk = b.walk;
      within = rw plumb (omega (
        arith,
        b.within,
        axis-le w.along b.line_y z.y b.line_y t.y e,
        axis-one w.along z.y t.y unit,
      ));
    }
    stepped-along (rises s h k e) =
        climbed (inr s)
        (clear_comm _ _ ms ∙ clear-along xs ys ms sides b.line_y z.y t.y z.y b.line_x t.x s h k (omega signed) b.about-x
        (clear_comm _ _ ms ∙ rw upright free))
        s.second e
    stepped-along (falls s h k e) =
        climbed (inl s)
        (clear-along xs ys ms sides z.y b.line_y z.y t.y b.line_x t.x s (omega signed) k h b.about-x (rw upright free))
        s.first e

  stepped : (z t q : Place) (n : ℕ) → UnitStep ms z t → Behind t q n → Behind z q (price z t + n)
  stepped z t q n u b =
      either
      (λ h. stepped-across z t q n h.0 h.1 u.free b
      (moved xs b.line_x t.x z.x b.about-x (apart-comm t.x z.x ∙ h.0)))
      (λ h. stepped-along z t q n h.0 h.1 u.free b
      (moved ys b.line_y t.y z.y b.about-y (apart-comm t.y z.y ∙ h.1)))
      (unit-axes z t u.unit)

  behind : {z q : Place} {ps : List Place} → Crossing xs ys q → Walk (UnitStep ms) z ps q → Behind z q (long price z ps)
  unfolding long
  behind {z} {q} c (stop e) = record {
    line_x = q.x;
    line_y = q.y;
    about-x = rw e (about-itself xs q.x c.across);
    about-y = rw e (about-itself ys q.y c.along);
    points = [];
    walk = stop refl;
    within = rw e (omega (arith, cost-self w q));
  }
  behind {z} {q} c (go {y = t} {ps = ps} u w) = stepped z t q (long price t ps) u (behind c w)

  -- from crossing to crossing
  pub retract : {p q : Place} {ps : List Place} → Crossing xs ys p → Crossing xs ys q → Walk (UnitStep ms) p ps q →
      Within (GridStep xs ys ms) price p q (long price p ps)
  retract {p} {q} {ps} a c w = at (behind c w)
    where
      at : Behind p q (long price p ps) → Within (GridStep xs ys ms) price p q (long price p ps)
      at b =
          let e : place b.line_x b.line_y ≡ p =
          ap₂ place (about-line xs b.line_x p.x b.about-x a.across) (about-line ys b.line_y p.y b.about-y a.along) in
          record {
            points = b.points;
            walk = subst (λ (z : Place). Walk (GridStep xs ys ms) z b.points q) e b.walk;
            within = subst (λ (z : Place). long price z b.points ≤ long price p ps) e (omega (arith, b.within));
          }
