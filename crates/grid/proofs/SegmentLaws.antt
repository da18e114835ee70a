-- Segments by number: where they lead, and the cases of what they cost.
-- Assumes nothing.
use mathlib.Core.Path.{◌≡◌, refl, sym, ◌∙◌}
use mathlib.Core.Bool.{true, false, ◌&&◌}
use mathlib.Core.List.{List}
use Prim.Native.Nat.{ℕ, ◌+◌, ◌*◌, ◌/◌, ◌%◌, ◌≤◌, ◌<◌}
use native.Mathlib.Decide.{ℕ_discrete}
use native.Mathlib.Omega.{arith}
use borrow.Author.Tests.{eq-eqb, ne_eqb, ltb-true, lt-ltb}
use lib.Dec.{ltb}
use lib.IntN.{ℤ}
use Rattle.lists.proofs.TestLaws.{by, and_left, and_right, and_both}
use Rattle.plane.specs.declared.Place.{Place}
use Rattle.plane.specs.declared.Macro.{Macro}
use Rattle.plane.specs.declared.Weights.{Weights}
use Rattle.plane.specs.Cost.{cost}
use Rattle.plane.specs.Macro.{clear}
use Rattle.net.specs.Bounds.{cost_bound}
use Rattle.lines.specs.declared.Grid.{Grid}
use Rattle.lines.specs.Bounds.{line_bound, crossing_bound}
use Rattle.lines.specs.Tables.{FewLines}
use Rattle.grid.specs.Tables.{crossing_at, target, is_segment, segment_cost, edge_cost, Priced}

-- Where a segment leads

pub target-even : (k : ℕ) → k % 2 ≡ 0 → target k ≡ k / 2 + line_bound
unfolding target
target-even k e = rw (target, eq-eqb (k % 2) 0 e) refl

pub target-odd : (k : ℕ) → (k % 2 ≡ 0 → ⊥) → target k ≡ k / 2 + 1
unfolding target
target-odd k n = rw (target, ne_eqb (k % 2) 0 n) refl

-- it leads ahead
pub target-above : (k : ℕ) → k / 2 < target k
target-above k = pick (ℕ_discrete (k % 2) 0)
  where
    pick : Dec (k % 2 ≡ 0) → k / 2 < target k
    pick (yes e) = omega (arith, target-even k e)
    pick (no n) = omega (arith, target-odd k n)

-- the two segments from a crossing
pub target-across : (v : ℕ) → v + line_bound ≡ target (v * 2)
target-across v = omega (arith, target-even (v * 2) (omega arith))

pub target-along : (v : ℕ) → v + 1 ≡ target (v * 2 + 1)
target-along v = omega (arith, target-odd (v * 2 + 1) (λ z. let b : ⊥ = omega (arith, z) in b))

-- What it costs

pub segment-clear : (w : Weights) (ms : List Macro) (a b : Place) → clear a b ms ≡ true → segment_cost w ms a b ≡ cost w a b
unfolding segment_cost
segment-clear w ms a b e = rw (segment_cost, e) refl

pub segment-met : (w : Weights) (ms : List Macro) (a b : Place) → clear a b ms ≡ false → segment_cost w ms a b ≡ 0
unfolding segment_cost
segment-met w ms a b e = rw (segment_cost, e) refl

-- Which segments there are

module _ (g : Grid) (k : ℕ) where
  pub segment-even : k % 2 ≡ 0 → (ltb (k / 2 / line_bound + 1) g.across && ltb (k / 2 % line_bound) g.along) ≡ is_segment g k
  unfolding is_segment
  segment-even e = rw (is_segment, eq-eqb (k % 2) 0 e) refl

  pub segment-odd : (k % 2 ≡ 0 → ⊥) → (ltb (k / 2 / line_bound) g.across && ltb (k / 2 % line_bound + 1) g.along) ≡ is_segment g k
  unfolding is_segment
  segment-odd n = rw (is_segment, ne_eqb (k % 2) 0 n) refl

  -- an even segment that there is, and an odd one
  pub record Inside : Type 0 where
    pub even : k % 2 ≡ 0 → (k / 2 / line_bound + 1 < g.across) × (k / 2 % line_bound < g.along)
    pub odd : (k % 2 ≡ 0 → ⊥) → (k / 2 / line_bound < g.across) × (k / 2 % line_bound + 1 < g.along)

  pub segment-inside : is_segment g k ≡ true → Inside
  segment-inside s = record {
    even = λ e. let t = segment-even e ∙ s in
        let p = ltb (k / 2 / line_bound + 1) g.across in
        let q = ltb (k / 2 % line_bound) g.along in
        (ltb-true _ _ (and_left p q t), ltb-true _ _ (and_right p q t));
    odd = λ n. let t = segment-odd n ∙ s in
        let p = ltb (k / 2 / line_bound) g.across in
        let q = ltb (k / 2 % line_bound + 1) g.along in
        (ltb-true _ _ (and_left p q t), ltb-true _ _ (and_right p q t));
  }

  pub even-segment : k % 2 ≡ 0 → k / 2 / line_bound + 1 < g.across → k / 2 % line_bound < g.along → is_segment g k ≡ true
  even-segment e h l = sym (segment-even e) ∙ and_both _ _ (lt-ltb _ _ h) (lt-ltb _ _ l)

  pub odd-segment : (k % 2 ≡ 0 → ⊥) → k / 2 / line_bound < g.across → k / 2 % line_bound + 1 < g.along → is_segment g k ≡ true
  odd-segment n h l = sym (segment-odd n) ∙ and_both _ _ (lt-ltb _ _ h) (lt-ltb _ _ l)

  -- both its ends are crossings
  pub segment-ends : FewLines g → is_segment g k ≡ true → target k < crossing_bound
  segment-ends few s = at (ℕ_discrete (k % 2) 0)
    where
      at : Dec (k % 2 ≡ 0) → target k < crossing_bound
      at (yes e) = let r = (segment-inside s).even e in omega (arith, target-even k e, r, few.across, few.along)
      at (no n) = let r = (segment-inside s).odd n in omega (arith, target-odd k n, r, few.across, few.along)

module _ (w : Weights) (ms : List Macro) (g : Grid) (xs ys : List ℤ) (k : ℕ) where
  pub edge_none : is_segment g k ≡ false → edge_cost w ms g xs ys k ≡ 0
  unfolding edge_cost
  edge_none e = rw (edge_cost, e) refl

  pub edge-there : is_segment g k ≡ true → edge_cost w ms g xs ys k ≡ segment_cost w ms (crossing_at xs ys (k / 2))
      (crossing_at xs ys (target k))
  unfolding edge_cost
  edge-there e = rw (edge_cost, e) refl

  -- by the calls that a program makes for it
  pub edge-made : (a b : Place) (t : ℕ) → a ≡ crossing_at xs ys (k / 2) → b ≡ crossing_at xs ys t → t ≡ target k → is_segment g k ≡ true →
      segment_cost w ms a b ≡ edge_cost w ms g xs ys k
  edge-made a b t e f h i = rw (e, f, h) (sym (edge-there i))

  -- it costs no more than metal between two places of a net
  pub edge-low : Priced w xs ys → edge_cost w ms g xs ys k ≤ cost_bound
  edge-low p =
      by (is_segment g k)
      (λ s. by (clear (crossing_at xs ys (k / 2)) (crossing_at xs ys (target k)) ms)
      (λ f. omega (
        arith,
        edge-there s,
        segment-clear w ms (crossing_at xs ys (k / 2)) (crossing_at xs ys (target k)) f,
        p (k / 2) (target k),
      ))
      (λ f. omega (arith, edge-there s, segment-met w ms (crossing_at xs ys (k / 2)) (crossing_at xs ys (target k)) f)))
      (λ s. omega (arith, edge_none s))
