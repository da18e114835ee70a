-- Between two pins, the cheapest way along the grid's edges is a lower bound for every walk in clear unit steps, and is itself such a walk;
-- so no way along the spanning graph, or along any clear edges, is cheaper.
-- Assumes nothing.
use mathlib.Core.Path.{◌≡◌, refl, ◌∙◌}
use mathlib.Core.List.{List, []}
use mathlib.Core.Bool.{true}
use Prim.Native.Nat.{ℕ, ◌≤◌}
use native.Mathlib.Omega.{arith}
use Rattle.lists.specs.Member.{◌∈◌}
use Rattle.lists.proofs.TestLaws.{either}
use Rattle.joined.specs.Joined.{Link}
use Rattle.plane.specs.declared.Place.{Place}
use Rattle.plane.specs.Macro.{clear}
use Rattle.plane.proofs.MacroLaws.{clear_comm}
use Rattle.joined.specs.Joined.{Joined}
use Rattle.joined.specs.Way.{Way, stop, long, turned}
use Rattle.joined.proofs.WayLaws.{way-joined, joined-way, turned-way, turned-long}
use Rattle.plane.proofs.CostLaws.{cost-comm}
use Rattle.net.specs.Net.{Net, cost_in}
use Rattle.grid.specs.Walk.{Walk, Exactly}
use Rattle.lines.specs.Lines.{x_lines, y_lines, Crossing, UnitStep, ClearStep}
use Rattle.lines.specs.Edges.{grid_edges}
use Rattle.grid.specs.Distance.{GridDistance, TrueDistance}
use Rattle.grid.proofs.WalkLaws.{walk-map, walk-way, way-walk}
use Rattle.grid.proofs.Retract.{retract}
use Rattle.grid.proofs.BoxWalk.{clear-walk, grid-walk}
use Rattle.lines.proofs.EdgeLaws.{lines-sides, pin-crossing, grid-link, link-grid}

-- a place on two lines of the net
abbrev pub IsCrossing : Net → Place → Type 0
IsCrossing net p = Crossing (x_lines net) (y_lines net) p

module _ (net : Net) where
  abbrev price : Place → Place → ℕ
  price = cost_in net

  -- a way along the grid's edges that costs at most so much
  pub record GridWay (p q : Place) (most : ℕ) : Type 0 where
    pub points : List Place
    pub way : Way (grid_edges net) p points q
    pub within : long price p points ≤ most

  -- for each walk in unit steps there is one
  pub no-walk-cheaper : {p q : Place} {ps : List Place} → IsCrossing net p → IsCrossing net q → Walk (UnitStep net.macros) p ps q →
      GridWay p q (long price p ps)
  no-walk-cheaper a c w =
      let r = retract (x_lines net) (y_lines net) net.macros (lines-sides net) net.weights a c w in
      record { points = r.points; way = walk-way (walk-map (grid-link net) r.walk); within = r.within }

  -- and a way along the grid is such a walk
  pub grid-way-walk : {p q : Place} {ps : List Place} → Way (grid_edges net) p ps q → Exactly (UnitStep net.macros) price p q
      (long price p ps)
  grid-way-walk w = grid-walk net.macros net.weights (x_lines net) (y_lines net) (walk-map (link-grid net) (way-walk w))

  -- a walk over clear edges, whose inner places may be anywhere
  pub no-clear-walk-cheaper : {p q : Place} {ps : List Place} → IsCrossing net p → IsCrossing net q →
      Walk (ClearStep net.macros) p ps q →
      GridWay p q (long price p ps)
  no-clear-walk-cheaper {p} {q} a c w =
      let u = clear-walk net.macros net.weights w in
      let r : GridWay p q (long price p u.points) = no-walk-cheaper a c u.walk in
      record { points = r.points; way = r.way; within = omega (arith, r.within, u.costs) }

  -- L8: a way along pairs that are clear, those of the spanning graph among them
  pub no-way-cheaper : (L : List (Place × Place)) → ((a b : Place) → (a, b) ∈ L → clear a b net.macros ≡ true) →
      {p q : Place} {ps : List Place} → p ∈ net.pins → q ∈ net.pins → Way L p ps q → GridWay p q (long price p ps)
  no-way-cheaper L h i k w = no-clear-walk-cheaper (pin-crossing net _ i) (pin-crossing net _ k) (walk-map steps (way-walk w))
    where
      steps : (a b : Place) → Link L a b → ClearStep net.macros a b
      steps a b l = either (h a b) (λ m. rw (clear_comm a b net.macros) (h b a m)) l

  -- what such pairs join, the grid joins
  pub grid-joins : (L : List (Place × Place)) → ((a b : Place) → (a, b) ∈ L → clear a b net.macros ≡ true) →
      {p q : Place} → p ∈ net.pins → q ∈ net.pins → Joined L p q → Joined (grid_edges net) p q
  grid-joins L h i k j = way-joined (no-way-cheaper L h i k (joined-way j).1).way

  -- L7: the cheapest cost along the grid is the true distance
  pub grid-true : {p q : Place} {n : ℕ} → IsCrossing net p → IsCrossing net q → GridDistance net p q n → TrueDistance net p q n
  grid-true a c d =
      let w = grid-way-walk d.way in
      record {
        points = w.points;
        walk = w.walk;
        costs = w.costs ∙ d.costs;
        least = λ qs u. let r = no-walk-cheaper a c u in omega (arith, r.within, d.least r.points r.way);
      }

-- one number only
pub grid-only : {net : Net} {p q : Place} {n k : ℕ} → GridDistance net p q n → GridDistance net p q k → n ≡ k
grid-only d e = omega (arith, d.costs, e.costs, d.least e.points e.way, e.least d.points d.way)

pub true-only : {net : Net} {p q : Place} {n k : ℕ} → TrueDistance net p q n → TrueDistance net p q k → n ≡ k
true-only d e = omega (arith, d.costs, e.costs, d.least e.points e.walk, e.least d.points d.walk)

-- the same both ways, and 0 from a place to itself
pub grid-turn : {net : Net} {p q : Place} {n : ℕ} → GridDistance net p q n → GridDistance net q p n
unfolding long
grid-turn {net} {p} {q} {n} d = record {
  points = turned p d.points [];
  way = turned-way d.way (stop refl);
  costs = omega (arith, turned-long (cost_in net) (cost-comm net.weights) d.way [], d.costs);
  least = λ qs w.
      omega (
        arith,
        d.least (turned q qs []) (turned-way w (stop refl)),
        turned-long (cost_in net) (cost-comm net.weights) w [],
      );
}

pub grid-self : {net : Net} {p : Place} → GridDistance net p p 0
unfolding long
grid-self = record { points = []; way = stop refl; costs = refl; least = λ qs w. omega arith }
