-- L11, L13: a cheapest list of the grid's edges that joins all pins is a best tree. A filled table says how cheap it gets.
-- Assumes nothing.
use mathlib.Core.Path.{◌≡◌, refl, ap}
use mathlib.Core.Bool.{Bool, true}
use mathlib.Core.Logic.{◌⊎◌, inl, inr}
use mathlib.Core.List.Memᴰ
use mathlib.Core.List.{List, [], ◌∷◌, ◌++◌, map}
use Prim.Native.Nat.{ℕ, suc, ◌*◌, ◌≤◌, ◌<◌}
use native.Mathlib.Nat.{suc-mul}
use native.Mathlib.Omega.{arith}
use lib.Dec.{ltb}
use lib.IntN.{ℤ}
use lib.ListN.{length, length-map, length-append}
use borrow.Author.Tests.{ltb-true, ltb-false}
use Rattle.lists.specs.Member.{◌∈◌, here, there, Among}
use Rattle.lists.proofs.TestLaws.{by, either}
use Rattle.lists.proofs.MapLaws.{in_map}
use Rattle.joined.specs.Joined.{Link}
use Rattle.joined.specs.Cost.{lengths}
use Rattle.joined.proofs.JoinedLaws.{turn, then, back}
use Rattle.plane.specs.declared.Place.{Place}
use Rattle.plane.specs.Place.{place}
use Rattle.plane.specs.Cost.{Positive}
use Rattle.plane.proofs.PlaceOrder.{place_same}
use Rattle.net.specs.Net.{Net, cost_in}
use Rattle.lines.specs.Lines.{x_lines, y_lines, Crossing}
use Rattle.lines.specs.Edges.{Edge, grid_edges}
use Rattle.lines.proofs.AxisLaws.{cost-length}
use Rattle.lines.proofs.EdgeLaws.{link-grid, pin-crossing}
use Rattle.lines.proofs.CrossingLaws.{step-crossings}
use Rattle.grid.proofs.BoxWalk.{grid-clear}
use Rattle.grid.proofs.DistanceLaws.{IsCrossing}
use Rattle.grid.proofs.TableGrid.{link-cost}
use Rattle.best.specs.Sets.{Edges, Reaches}
use Rattle.best.specs.Tree.{IsBest}
use Rattle.best.specs.Masks.{chosen, Mask, mask_pins, Filled}
use Rattle.best.proofs.LowerBound.{lower-bound}
use Rattle.best.proofs.MaskLaws.{filled-closed}
use Rattle.best.proofs.CheapestTree.{Cheapest, points-are, cheapest-short, cheapest-one-tree, cheapest-simple, cheapest-two}

-- The mask of all pins

module _ {A : Type 0} where
  unfoldable pub ones : List A → List Bool
  ones [] = []
  ones (p ∷ ps) = true ∷ ones ps

  pub chosen-ones : (ps : List A) → chosen (ones ps) ps ≡ ps
  unfolding chosen ones
  chosen-ones [] = refl
  chosen-ones (p ∷ ps) = ap (λ (l : List A). p ∷ l) (chosen-ones ps)

  pub ones-size : (ps : List A) → length (ones ps) ≡ length ps
  unfolding ones
  ones-size [] = refl
  ones-size (p ∷ ps) = ap suc (ones-size ps)

  unfoldable pub all_pins : (pins : List A) (p : A) → p ∈ pins → Mask pins
  all_pins pins p m = record { bits = ones pins; size = ones-size pins; pin = p; some = rw chosen-ones m }

  pub all-pins : (pins : List A) (p : A) (m : p ∈ pins) → mask_pins pins (all_pins pins p m) ≡ pins
  unfolding all_pins
  all-pins pins p m = chosen-ones pins

-- All crossings

crossings : List ℤ → List ℤ → List Place
crossings [] ys = []
crossings (x ∷ xs) ys = map (place x) ys ++ crossings xs ys

crossings-count : (xs ys : List ℤ) → length (crossings xs ys) ≡ length xs * length ys
unfolding crossings
crossings-count [] ys = omega arith
crossings-count (x ∷ xs) ys =
    omega (
      arith,
      length-append (map (place x) ys) (crossings xs ys),
      length-map ys (place x),
      crossings-count xs ys,
      suc-mul (length xs) (length ys),
    )

in-crossings : (xs ys : List ℤ) (a : Place) → Crossing xs ys a → a ∈ crossings xs ys
unfolding crossings
in-crossings xs ys a c = at xs c.across
  where
    at : (xs : List ℤ) → a.x ∈ xs → a ∈ crossings xs ys
    at [] x' = elim x' [ ]
    at (x ∷ xs) (here e) =
        let i : a ∈ map (place x) ys = rw (← e) (in_map (place a.x) c.along) in
        Memᴰ.append_left (crossings xs ys) i
    at (x ∷ xs) (there m) = Memᴰ.append_right (map (place x) ys) (at xs m)

module _ (net : Net) (positive : Positive net.weights) where
  abbrev G : List Edge
  G = grid_edges net

  abbrev price : Place → Place → ℕ
  price = cost_in net

  ends_on : (a b : Place) → Link G a b → IsCrossing net a × IsCrossing net b
  ends_on a b l = step-crossings (x_lines net) (y_lines net) net.macros a b (link-grid net a b l)

  -- A cheapest list of edges is a best tree

  abbrev pub IsCheapest : Place → List Edge → Type 0
  IsCheapest p0 O = Cheapest G price net.pins p0 O

  module _ {p0 : Place} {O : List Edge} (c : IsCheapest p0 O) where
    point-crossing : (a : Place) → (a ∈ net.pins) ⊎ ((z : Place) × Link O a z) → IsCrossing net a
    point-crossing a (inl i) = pin-crossing net a i
    point-crossing a (inr r) = (ends_on a r.0 (either (c.edges a r.0) (λ m. turn (c.edges r.0 a m)) r.1)).0

    few : length O < length (x_lines net) * length (y_lines net)
    few =
        let k = cheapest-short place_same (cost-length net.weights) (link-cost net positive) c (crossings (x_lines net) (y_lines net))
        (λ a m. in-crossings (x_lines net) (y_lines net) a
        (point-crossing a (points-are place_same (cost-length net.weights) (link-cost net positive) c a m))) in
        omega (arith, k, crossings-count (x_lines net) (y_lines net))

    pub cheapest-best : IsBest net O
    cheapest-best = record {
      all-joined = record { on-grid = c.edges; joins = λ p q i k. then (back (c.reaches p i)) (c.reaches q k) };
      least = λ F h. c.least F h.on-grid (λ p m. h.joins p0 p c.root m);
      one-tree = cheapest-one-tree place_same (cost-length net.weights) (link-cost net positive) c;
      simple = cheapest-simple place_same (cost-length net.weights) (link-cost net positive) c;
      free = λ a b m. grid-clear net.macros net.weights (x_lines net) (y_lines net) a b (link-grid net a b (c.edges a b m));
      two = cheapest-two place_same (cost-length net.weights) (link-cost net positive) c;
      few = few;
    }

  -- What a filled table says. The goals are the pins, or the pins but for p0: then the table has half as many rows.

  module _ (goals : List Place) (cap : ℕ) (T : Mask goals → Place → ℕ) (t : Filled goals G price cap T) (p0 q : Place) (goal : q ∈ goals)
    where
      abbrev whole : ℕ
      whole = T (all_pins goals q goal) p0

      below : (F : List Edge) → Edges G F → lengths price F < cap → Reaches F p0 goals → whole ≤ lengths price F
      below F e low r =
          lower-bound place_same (mask_pins goals) G price (cost-length net.weights) cap T (filled-closed goals G price cap T t) F
          (all_pins goals q goal) p0 low e (λ p m. r p (rw (all-pins goals q goal) at m))

      -- where the grid joins the pins and costs less than the cap, the value is below it
      pub table-finite : lengths price G < cap → Reaches G p0 goals → whole < cap
      table-finite low r = let k = below G (λ a b m. inl m) low r in omega (arith, k, low)

      -- no edges of the grid that join all pins cost less
      pub table-least : whole < cap → Among goals net.pins → (F : List Edge) → Edges G F → Reaches F p0 net.pins →
          whole ≤ lengths price F
      table-least finite part F e r =
          by (ltb (lengths price F) cap)
          (λ k. below F e (ltb-true (lengths price F) cap k) (λ p m. r p (part p m)))
          (λ k. omega (arith, finite, ltb-false (lengths price F) cap k))

-- all best trees cost the same
pub best-alike : (net : Net) (O P : List Edge) → IsBest net O → IsBest net P → lengths (cost_in net) O ≡ lengths (cost_in net) P
best-alike net O P o p = omega (arith, o.least P p.all-joined, p.least O o.all-joined)
