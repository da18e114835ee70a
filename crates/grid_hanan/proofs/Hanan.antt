-- Hanan's theorem, with macros and weights: whatever unit steps of the plane, each clear of the interiors, join the pins, there are edges
-- of the grid that join them for no more. Every x and every y of the steps is taken for a line at first, so that each step goes from a
-- crossing to the next; then the lines that are not the net's are taken out, those across and then those along.
-- Assumes nothing.
use mathlib.Core.Path.{◌≡◌, refl}
use mathlib.Core.Logic.{inl, inr}
use mathlib.Core.List.Memᴰ
use mathlib.Core.List.{List, [], ◌∷◌, ◌++◌, map}
use native.Mathlib.Omega.{arith}
use lib.IntN.{ℤ}
use lib.Signed.{lt_z}
use Rattle.lists.specs.Member.{◌∈◌, here, there}
use Rattle.lists.specs.Total.{total}
use Rattle.lists.proofs.TestLaws.{by, either}
use Rattle.lists.proofs.MapLaws.{in_map}
use Rattle.signed.proofs.SideLaws.{z_lt-true, signed}
use Rattle.joined.specs.Joined.{Link, stay}
use Rattle.joined.specs.Pairs.{Each}
use Rattle.joined.specs.Cost.{lengths}
use Rattle.joined.proofs.JoinedLaws.{firsts, seconds, one, between, through, older}
use Rattle.joined.proofs.PairLaws.{each_none, each-cons}
use Rattle.plane.specs.declared.Place.{Place}
use Rattle.plane.specs.declared.Macro.{Macro}
use Rattle.plane.specs.declared.Weights.{Weights}
use Rattle.plane.specs.Distance.{apart}
use Rattle.plane.proofs.DistanceLaws.{apart-comm, apart-ordered}
use Rattle.net.specs.Net.{Net, cost_in}
use Rattle.lines.specs.Lines.{x_lines, y_lines, Sides, Crossing, Beside, GridStep, across, along, UnitStep}
use Rattle.lines.specs.Edges.{Edge, grid_edges}
use Rattle.lines.proofs.AxisLaws.{unit-axes}
use Rattle.lines.proofs.StepLaws.{sides-among}
use Rattle.lines.proofs.EdgeLaws.{lines-sides, pin-crossing, grid-link}
use Rattle.grid_hanan.specs.Metal.{UnitMetal, GridMetal}
use Rattle.grid_hanan.proofs.InsteadLaws.{Instead, Anywhere, instead-same, instead-then}
use Rattle.grid_hanan.proofs.StepLaws.{Kept}
use Rattle.grid_hanan.proofs.FewerLines.{lines-less}
use Rattle.grid_hanan.proofs.TurnedPlane.{lines-less-along}

-- Points dropped

stepped : (xs ys : List ℤ) (ms : List Macro) (w : Weights) (F : List Edge) → Each (Kept xs ys ms) F →
    Instead w (GridStep xs ys ms) Anywhere F
unfolding lengths total
stepped xs ys ms w [] k = instead-same (each_none (GridStep xs ys ms))
stepped xs ys ms w ((p, q) ∷ F) k = at (k p q (here refl)) (stepped xs ys ms w F (λ a b m. k a b (there m)))
  where
    at : Kept xs ys ms p q → Instead w (GridStep xs ys ms) Anywhere F → Instead w (GridStep xs ys ms) Anywhere ((p, q) ∷ F)
    at (inl e) r = record {
      edges = r.edges;
      each = r.each;
      joins = λ x y _ _ j. through (λ a b m.
          either (λ h. between (firsts h) (seconds h) (stay e)) (λ i. r.joins a b tt tt (one (inl i))) (Memᴰ.cases_cons m)) j;
      costs = omega (arith, r.costs);
    }
    at (inr s) r = record {
      edges = (p, q) ∷ r.edges;
      each = each-cons (GridStep xs ys ms) p q r.edges s r.each;
      joins = λ x y _ _ j. through (λ a b m.
          either (λ h. between (firsts h) (seconds h) (one (inl (here refl)))) (λ i. older (r.joins a b tt tt (one (inl i))))
          (Memᴰ.cases_cons m)) j;
      costs = omega (arith, r.costs);
    }

-- Unit steps from crossing to crossing

unit-beside : (L : List ℤ) (u v : ℤ) → u ∈ L → v ∈ L → apart u v ≡ 1 → Beside L u v
unit-beside L u v i j e =
    by (lt_z u v)
    (λ l. inl record {
      first = i;
      second = j;
      rise = z_lt-true u v l;
      none = λ c m h k. omega (signed, h, k, e, apart-ordered u v (omega (signed, l)));
    })
    (λ l. let r = apart-ordered v u (omega (signed, l)) in inr record {
      first = j;
      second = i;
      rise = omega (signed, l, e, r, apart-comm u v);
      none = λ c m h k. omega (signed, h, k, e, r, apart-comm u v);
    })

unit-step : (xs ys : List ℤ) (ms : List Macro) (a b : Place) → Crossing xs ys a → Crossing xs ys b → UnitStep ms a b → GridStep xs ys ms a b
unit-step xs ys ms a b i j u =
    either
    (λ h. across (unit-beside xs a.x b.x i.across j.across h.0) h.1 i.along u.free)
    (λ h. along (unit-beside ys a.y b.y i.along j.along h.1) h.0 i.across u.free)
    (unit-axes a b u.unit)

-- a coordinate of both ends of each edge
abbrev ends : (Place → ℤ) → List Edge → List ℤ
ends f U = map (λ (e : Edge). f e.0) U ++ map (λ (e : Edge). f e.1) U

ends-in : (f : Place → ℤ) (U : List Edge) (l : List ℤ) (a b : Place) → (a, b) ∈ U → (f a ∈ (ends f U ++ l)) × (f b ∈ (ends f U ++ l))
ends-in f U l a b m = (
  Memᴰ.append_left l (Memᴰ.append_left _ (in_map (λ (e : Edge). f e.0) m)),
  Memᴰ.append_left l (Memᴰ.append_right (map (λ (e : Edge). f e.0) U) (in_map (λ (e : Edge). f e.1) m)),
)

-- The theorem, for any lines that have the macros' sides

pub gridded : (xs ys : List ℤ) (ms : List Macro) (w : Weights) → Sides xs ys ms → (o : Place) → Crossing xs ys o → (U : List Edge) →
    Each (UnitStep ms) U → Instead w (GridStep xs ys ms) (Crossing xs ys) U
gridded xs ys ms w s o c U u =
    let es : List ℤ = ends (λ p. p.x) U in
    let fs : List ℤ = ends (λ p. p.y) U in
    let start : Each (Kept (es ++ xs) (fs ++ ys) ms) U =
    λ a b m. let x = ends-in (λ p. p.x) U xs a b m in let y = ends-in (λ p. p.y) U ys a b m in
    inr (unit-step (es ++ xs) (fs ++ ys) ms a b record { across = x.0; along = y.0 } record { across = x.1; along = y.1 } (u a b m)) in
    let r = lines-less (fs ++ ys) ms w es xs (sides-among (λ x j. j) (λ y. Memᴰ.append_right fs) s) U start o.x c.across in
    let t = lines-less-along xs ms w fs ys s r.edges r.each o.y c.along in
    instead-then r (instead-then t (stepped xs ys ms w t.edges t.each) (λ p h. h) (λ p h. tt))
    (λ p h. record { across = h.across; along = Memᴰ.append_right fs h.along }) (λ p h. h)

-- L17: and for a net
pub hanan : (net : Net) (U : List Edge) → UnitMetal net U → GridMetal net (lengths (cost_in net) U)
unfolding lengths total
hanan net U m = at net.pins refl
  where
    at : (l : List Place) → net.pins ≡ l → GridMetal net (lengths (cost_in net) U)
    at [] e = record {
      edges = [];
      on-grid = each_none (Link (grid_edges net));
      joins = λ p q i. let j : p ∈ [] = rw e at i in elim j [ ];
      within = omega arith;
    }
    at (o ∷ l) e =
        let first : o ∈ net.pins = rw e (here refl) in
        let c = pin-crossing net o first in
        let g = gridded (x_lines net) (y_lines net) net.macros net.weights (lines-sides net) o c U m.units in
        record {
          edges = g.edges;
          on-grid = λ a b i. grid-link net a b (g.each a b i);
          joins = λ p q i j. g.joins p q (pin-crossing net p i) (pin-crossing net q j) (m.joins p q i j);
          within = g.costs;
        }
