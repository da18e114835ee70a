-- An allowed net of a size that gets a grid: its tables fit, and what stands at a pin of a row settled from another is the cheapest cost
-- along the grid between the two. There is a way, since the spanning graph joins all pins, and it costs no more than all edges of the grid.
-- Assumes nothing.
use mathlib.Core.Path.{◌≡◌, refl, sym, ap, subst, ◌∙◌}
use mathlib.Core.Bool.{Bool, true, false}
use mathlib.Core.Logic.{inl}
use mathlib.Core.List.{List, ◌++◌, map}
use Prim.Native.Nat.{ℕ, ◌+◌, ◌*◌, ◌-◌, ◌≤◌, ◌<◌}
use native.Mathlib.Decide.{ℕ_discrete}
use native.Mathlib.Omega.{arith}
use borrow.Author.Tests.{ltb-true, ltb-false}
use lib.Dec.{ltb}
use lib.IntN.{ℤ, pos}
use lib.ListN.{length, get_or, drop, replicate, length-map, length-replicate, get_or-replicate, get_or-append, get_or-eq_default}
use lib.Seq.{get_or-drop, get_or-append-add}
use Rattle.lists.specs.Member.{◌∈◌}
use Rattle.lists.proofs.TestLaws.{by}
use Rattle.lists.proofs.MemberLaws.{get_d-in, once-length}
use Rattle.lists.proofs.MapLaws.{get_d_map}
use Rattle.lists.proofs.SortedLaws.{of-sorted, in-sorted, length-sorted}
use Rattle.joined.specs.Joined.{Joined}
use Rattle.lent.specs.Over.{over}
use Rattle.lent.proofs.OverLaws.{length_over}
use Rattle.plane.specs.declared.Place.{Place}
use Rattle.plane.specs.Place.{place, before}
use Rattle.plane.specs.Macro.{clear}
use Rattle.plane.proofs.PlaceOrder.{place-order}
use Rattle.net.specs.Net.{Net, cost_in}
use Rattle.net.specs.Tests.{out_of_range}
use Rattle.net.specs.Allowed.{Allowed, PlaceInRange}
use Rattle.net.proofs.RangeBounds.{cost-in-range}
use Rattle.net.proofs.AllowedLaws.{allowed-positive}
use Rattle.graph.specs.Spanning.{spanning}
use Rattle.graph.proofs.VertexLaws.{pin-vertex, vertices-ascending}
use Rattle.graph.proofs.EdgeLaws.{edge-of}
use Rattle.graph.proofs.Connected.{connected}
use Rattle.terminal.proofs.NumberLaws.{apart-once}
use Rattle.lines.specs.declared.Grid.{Grid}
use Rattle.lines.specs.declared.Axis.{Axis}
use Rattle.lines.specs.declared.Axis.TheVariants.{Across, Along}
use Rattle.lines.specs.Bounds.{grid_pins, grid_macros, line_bound, crossing_bound, unreached}
use Rattle.lines.specs.Lines.{lines_of, x_lines, y_lines}
use Rattle.lines.specs.Edges.{grid_edges}
use Rattle.lines.specs.Crossings.{is_crossing, crossing_number}
use Rattle.grid.specs.Rows.{at, Held, Quiet, Below}
use Rattle.grid.specs.Nearest.{Nearest}
use Rattle.lines.specs.Tables.{FewLines}
use Rattle.grid.specs.Tables.{crossing_at, is_segment, Priced, CostsTo, Fits, Near, Starts, Settled, RowsOver}
use Rattle.grid.specs.Distance.{GridDistance, pins_in_order, pin_in_order, SquareOver}
use Rattle.lines.proofs.AxisLaws.{cost-length}
use Rattle.lines.proofs.EdgeLaws.{pin-crossing, x-ascending, y-ascending}
use Rattle.lines.proofs.CrossingLaws.{is-crossing, crossing_is, numbers-single, number-below, ends-crossings}
use Rattle.lines.proofs.GridCost.{line-count, line-range, grid-cost}
use Rattle.grid.proofs.DistanceLaws.{grid-joins, grid-turn}
use Rattle.grid.proofs.NearestLaws.{nearest-least, nearest-way, nearest-joined}
use Rattle.grid.proofs.RowLaws.{held-near, quiet-near}
use Rattle.grid.proofs.Spread.{spread, spread-on, spread-off, row-nearest}
use Rattle.grid.proofs.SegmentLaws.{segment-ends, edge_none, edge-low}
use Rattle.grid.proofs.TableGrid.{Made, NearGrid, near-grid, grid-near, link-cost}

-- What the spanning graph joins

module _ {net : Net} (a : Allowed net) where
  pub spanning-clear : (u v : Place) → (u, v) ∈ spanning net → clear u v net.macros ≡ true
  spanning-clear u v m = (edge-of net.macros _ net.weights (vertices-ascending net) (u, v) m).is-clear

  pub pins-joined : {p q : Place} → p ∈ net.pins → q ∈ net.pins → Joined (grid_edges net) p q
  pins-joined {p} {q} i k =
      grid-joins net (spanning net) spanning-clear i k (connected a p q (pin-vertex net i) (pin-vertex net k))

-- Lists over zeros

module _ (L lent : List ℤ) where
  pub over-at : (i : ℕ) → i < length L → get_or (over L lent) i (pos 0) ≡ get_or L i (pos 0)
  unfolding over
  over-at i h = get_or-append L (drop (length L) lent) (pos 0) i h

  over-past : (i : ℕ) → length L ≤ i → length L ≤ length lent → get_or (over L lent) i (pos 0) ≡ get_or lent i (pos 0)
  unfolding over
  over-past i h k =
      let n : length L + (i - length L) ≡ i = omega (arith, h) in
      ap (λ (m : ℕ). get_or (L ++ drop (length L) lent) m (pos 0)) (sym n)
      ∙ get_or-append-add L (drop (length L) lent) (i - length L) (pos 0)
      ∙ get_or-drop (length L) lent (i - length L) (pos 0)
      ∙ ap (λ (m : ℕ). get_or lent m (pos 0)) n

-- The tables of an allowed net

zero-range : out_of_range (pos 0) ≡ false
unfolding out_of_range
zero-range = refl

-- the lines over zeros, read anywhere, are in range
pub range_at : (L lent : List ℤ) → ((c : ℤ) → c ∈ L → out_of_range c ≡ false) → ((i : ℕ) → get_or lent i (pos 0) ≡ pos 0) → length L ≤ length lent →
    (i : ℕ) → out_of_range (get_or (over L lent) i (pos 0)) ≡ false
range_at L lent h z room i =
    by (ltb i (length L))
    (λ e. let k = ltb-true i (length L) e in ap out_of_range (over-at L lent i k) ∙ h (get_or L i (pos 0)) (get_d-in L i (pos 0) k))
    (λ e. ap out_of_range (over-past L lent i (ltb-false i (length L) e) room ∙ z i) ∙ zero-range)

pub zeros-read : {A : Type 0} (n : ℕ) (d : A) (i : ℕ) → get_or (replicate n d) i d ≡ d
zeros-read n d i =
    by (ltb i n) (λ e. get_or-replicate n i d d (ltb-true i n e))
    (λ e. get_or-eq_default (replicate n d) d
    (let z : length (replicate n d) ≤ i = omega (arith, ltb-false i n e, length-replicate n d) in z))

-- as many in order as in the list
pub order-count : {net : Net} → Allowed net → length (pins_in_order net) ≡ length net.pins
order-count {net} a =
    omega (
      arith,
      length-sorted before net.pins,
      once-length net.pins (pins_in_order net) (apart-once net.pins a.pins-apart) (in-sorted before place-order net.pins),
    )

module _ {net : Net} (a : Allowed net) (few-pins : length net.pins ≤ grid_pins) (few-macros : length net.macros ≤ grid_macros) where
  pub few-lines : (axis : Axis) → length (lines_of axis net.pins net.macros) ≤ line_bound
  few-lines axis = omega (arith, few-pins, few-macros, line-count axis net)

  -- lines in tables of zeros
  module _ (zx zy : List ℤ) (nx : (i : ℕ) → get_or zx i (pos 0) ≡ pos 0) (ny : (i : ℕ) → get_or zy i (pos 0) ≡ pos 0)
      (lx : length zx ≡ line_bound) (ly : length zy ≡ line_bound) where
    pub lines-priced : Priced net.weights (over (x_lines net) zx) (over (y_lines net) zy)
    lines-priced u v = cost-in-range a _ _ (in-range u) (in-range v)
      where
        in-range : (v : ℕ) → PlaceInRange (crossing_at (over (x_lines net) zx) (over (y_lines net) zy) v)
        in-range v = record {
          x = range_at (x_lines net) zx (line-range a Across) nx (omega (arith, lx, few-lines Across)) _;
          y = range_at (y_lines net) zy (line-range a Along) ny (omega (arith, ly, few-lines Along)) _;
        }

  -- a table of costs fits
  pub costs-fit : (g : Grid) (xs ys : List ℤ) (costs : List ℕ) (e : ℕ) → FewLines g → Priced net.weights xs ys →
      e ≡ g.across * line_bound * 2 → CostsTo net.weights net.macros g xs ys e costs → Fits costs e
  costs-fit g xs ys costs e few priced count c = record {
    count = omega (arith, count, few.across);
    even = omega (arith, count);
    ends = λ k h is.
        by (is_segment g k) (λ s. segment-ends g k few s)
        (λ s. let z : ⊥ = omega (arith, is, c.each k h, edge_none net.weights net.macros g xs ys k s) in absurd z);
    low = λ k h. omega (arith, c.each k h, edge-low net.weights net.macros g xs ys k priced);
  }

  -- A settled row

  abbrev name : Place → ℕ
  name = crossing_number (x_lines net) (y_lines net)

  pub pin-below : (p : Place) → p ∈ net.pins → name p < crossing_bound
  pin-below p i =
      number-below (x_lines net) (y_lines net) (x-ascending net) (y-ascending net) (few-lines Across) (few-lines Along) p
      (pin-crossing net p i)

  module _ (g : Grid) (xs ys : List ℤ) (costs : List ℕ) (e : ℕ) (made : Made net g xs ys costs e) (p q : Place) (i : p ∈ net.pins)
      (k : q ∈ net.pins)
      (n : ℕ) (s : Settled (Near costs e) (name q) (name p) n) where
    abbrev G : List (Place × Place)
    G = grid_edges net

    abbrev on : Place → Bool
    on = is_crossing (x_lines net) (y_lines net)

    abbrev values : List ℕ → Place → ℕ
    values t = spread G (cost_in net) unreached on name t

    on-pin : (r : Place) → r ∈ net.pins → on r ≡ true
    on-pin r j = is-crossing (x_lines net) (y_lines net) (x-ascending net) (y-ascending net) r (pin-crossing net r j)

    single : (u v : Place) → on u ≡ true → on v ≡ true → name u ≡ name v → u ≡ v
    single = numbers-single (x_lines net) (y_lines net) (x-ascending net) (y-ascending net) (few-lines Across) (few-lines Along)

    held : Held (NearGrid net g xs ys costs e made) s.start s.row
    held = held-near (Near costs e) (NearGrid net g xs ys costs e made) (near-grid net g xs ys costs e made) s.start s.row s.held

    quiet : Quiet (NearGrid net g xs ys costs e made) s.row
    quiet =
        quiet-near (Near costs e) (NearGrid net g xs ys costs e made) (grid-near net g xs ys costs e made (allowed-positive a)) s.row
        s.quiet

    start-at : values s.start q ≡ 0
    start-at = spread-on G (cost_in net) unreached on name s.start q (on-pin q k) ∙ s.starts.here

    start-only : (v : Place) → values s.start v < unreached → v ≡ q
    start-only v low = by (on v) (λ f. pick f (ℕ_discrete (name v) (name q)))
        (λ f. let z : ⊥ = omega (arith, low, spread-off G (cost_in net) unreached on name s.start v f) in absurd z)
      where
        below : on v ≡ true → name v < crossing_bound
        below f =
            number-below (x_lines net) (y_lines net) (x-ascending net) (y-ascending net) (few-lines Across) (few-lines Along) v
            (crossing_is (x_lines net) (y_lines net) (x-ascending net) (y-ascending net) v f)

        pick : on v ≡ true → Dec (name v ≡ name q) → v ≡ q
        pick f (yes h) = single v q f (on-pin q k) h
        pick f (no h) =
            let z : ⊥ = omega (
              arith,
              low,
              spread-on G (cost_in net) unreached on name s.start v f,
              s.starts.elsewhere (name v) (below f) h,
            ) in
            absurd z

    nearest : Nearest G (cost_in net) unreached q (values s.row)
    nearest =
        row-nearest G (cost_in net) unreached on name single (ends-crossings net) s.start s.row held quiet q start-at start-only

    finite : values s.row p < unreached
    finite =
        omega (
          arith,
          grid-cost a few-pins few-macros,
          nearest-joined G (cost_in net) (cost-length net.weights) unreached q (values s.row) nearest G p (λ u v m. inl m)
              (pins-joined a i k),
        )

    pub settled-distance : GridDistance net p q n
    settled-distance =
        let w = nearest-way G (cost_in net) unreached q (values s.row) nearest (link-cost net (allowed-positive a)) p finite in
        let value = spread-on G (cost_in net) unreached on name s.row p (on-pin p i) in
        record {
          points = w.points;
          way = w.way;
          costs = w.costs ∙ value ∙ sym s.is;
          least = λ qs u. omega (arith, s.is, value, nearest-least G (cost_in net) unreached q (values s.row) nearest u);
        }

  -- The square

  module _ (zeros : List ℕ) (z : (i : ℕ) → get_or zeros i 0 ≡ 0) (room : length zeros ≡ grid_pins) where
    abbrev numbers : List ℕ
    numbers = over (map name (pins_in_order net)) zeros

    in_order : (i : ℕ) → i < length net.pins → pin_in_order net i ∈ net.pins
    in_order i h =
        of-sorted before net.pins (pin_in_order net i)
        (get_d-in (pins_in_order net) i (place (pos 0) (pos 0)) (omega (arith, h, order-count a)))

    pub number_at : (i : ℕ) → i < length net.pins → get_or numbers i 0 ≡ name (pin_in_order net i)
    unfolding over
    number_at i h =
        let l : i < length (pins_in_order net) = omega (arith, h, order-count a) in
        get_or-append (map name (pins_in_order net)) _ 0 i (omega (arith, l, length-map (pins_in_order net) name))
        ∙ get_d_map name (pins_in_order net) i (place (pos 0) (pos 0)) 0 l

    past : (i : ℕ) → length net.pins ≤ i → get_or numbers i 0 ≡ 0
    unfolding over
    past i h =
        let c : length (map name (pins_in_order net)) ≡ length net.pins = length-map (pins_in_order net) name ∙ order-count a in
        let n : length (map name (pins_in_order net)) + (i - length net.pins) ≡ i = omega (arith, h, c) in
        ap (λ (m : ℕ). get_or (map name (pins_in_order net) ++ drop (length (map name (pins_in_order net))) zeros) m 0) (sym n)
        ∙ get_or-append-add (map name (pins_in_order net)) _ (i - length net.pins) 0
        ∙ get_or-drop (length (map name (pins_in_order net))) zeros (i - length net.pins) 0
        ∙ z _

    pub numbers-below : Below crossing_bound numbers
    numbers-below i =
        by (ltb i (length net.pins))
        (λ e. let h = ltb-true i (length net.pins) e in omega (arith, number_at i h, pin-below (pin_in_order net i) (in_order i h)))
        (λ e. omega (arith, past i (ltb-false i (length net.pins) e)))

    pub numbers-count : length numbers ≡ grid_pins
    numbers-count = length_over (map name (pins_in_order net)) zeros
        (omega (arith, room, few-pins, length-map (pins_in_order net) name, order-count a)) ∙ room

    pub square-over : (g : Grid) (xs ys : List ℤ) (costs : List ℕ) (e : ℕ) → Made net g xs ys costs e → (lent lent' : List ℤ) →
        RowsOver (Near costs e) numbers (length net.pins) (length net.pins) lent lent' → SquareOver net lent lent'
    square-over g xs ys costs e made lent lent' o = record {
      numbers = o.done;
      square = record {
        size = o.size;
        each = λ i j h k.
            grid-turn
            (settled-distance g xs ys costs e made (pin_in_order net j) (pin_in_order net i) (in_order j k) (in_order i h)
            (get_or o.done (i * length net.pins + j) 0) (renamed i j h k (o.each i j h k)));
      };
      list = o.list;
    }
      where
        renamed : (i j : ℕ) → i < length net.pins → j < length net.pins → {n : ℕ} →
            Settled (Near costs e) (get_or numbers i 0) (get_or numbers j 0) n → Settled (Near costs e) (name (pin_in_order net i))
            (name (pin_in_order net j)) n
        renamed i j h k s = record {
          start = s.start;
          starts = subst (λ (v : ℕ). Starts v s.start) (number_at i h) s.starts;
          row = s.row;
          held = s.held;
          quiet = s.quiet;
          is = s.is ∙ ap (at s.row) (number_at j k);
        }
