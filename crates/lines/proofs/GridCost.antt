-- All edges of the grid together cost no more than each line's whole extent: neighbours on a line add up to what lies between its ends.
-- So the bounds of lines, coordinates and weights bound what they cost together, and no edge costs more than that.
-- Assumes nothing.
use mathlib.Core.Path.{◌≡◌, refl}
use mathlib.Core.Bool.{Bool, false}
use mathlib.Core.List.Memᴰ
use mathlib.Core.List.{List, [], ◌∷◌, ◌++◌, map}
use Prim.Native.Nat.{ℕ, ◌+◌, ◌*◌, ◌≤◌, ◌<◌}
use native.Mathlib.Nat.{suc-mul, mul-le-mul, mul-le-mul_right}
use native.Mathlib.Omega.{arith}
use lib.IntN.{ℤ, pos}
use lib.ListN.{length, length-append, length-map}
use lib.Signed.{lt_z}
use Rattle.lists.specs.Member.{◌∈◌, here, there}
use Rattle.lists.specs.Sorted.{Ascending}
use Rattle.lists.specs.Those.{those}
use Rattle.lists.specs.Total.{total}
use Rattle.lists.proofs.TestLaws.{by, either}
use Rattle.lists.proofs.MapLaws.{of_map}
use Rattle.lists.proofs.SortedLaws.{length-sorted, sorted-ascending, of-sorted}
use Rattle.signed.specs.Sides.{Le}
use Rattle.signed.proofs.SideLaws.{z_lt-true, up_pos, down_pos, signed}
use Rattle.joined.specs.Cost.{lengths}
use Rattle.joined.proofs.CostLaws.{lengths-append}
use Rattle.plane.specs.declared.Place.{Place}
use Rattle.plane.specs.declared.Macro.{Macro}
use Rattle.plane.specs.declared.Weights.{Weights}
use Rattle.plane.specs.Distance.{apart}
use Rattle.plane.specs.Cost.{cost}
use Rattle.net.specs.Bounds.{coordinate_bound, weight_bound}
use Rattle.net.specs.Net.{Net, cost_in}
use Rattle.net.specs.Tests.{out_of_range}
use Rattle.net.specs.Allowed.{Allowed}
use Rattle.net.proofs.RangeBounds.{Near, in-range-near}
use Rattle.lines.specs.Bounds.{grid_pins, grid_macros, line_bound, unreached}
use Rattle.lines.specs.declared.Axis.{Axis}
use Rattle.lines.specs.declared.Axis.TheVariants.{Across, Along}
use Rattle.lines.specs.Lines.{coordinate, sides, marks, lines_of, x_lines, y_lines}
use Rattle.plane.specs.Macro.{clear}
use Rattle.plane.proofs.DistanceLaws.{apart-ordered}
use Rattle.lines.specs.Edges.{nexts, Edge, row, column, rows, columns, edges_of, grid_edges}
use Rattle.lines.proofs.LineLaws.{line-order}
use Rattle.lines.proofs.AxisLaws.{axis-self, axis-sum}

those-cost : (d : Place → Place → ℕ) (f : Edge → Bool) (L : List Edge) → lengths d (those f L) ≤ lengths d L
unfolding lengths total those
those-cost d f [] = omega arith
those-cost d f (e ∷ L) =
    by (f e) (λ k. rw (those, k) (omega (arith, those-cost d f L))) (λ k. rw (those, k) (omega (arith, those-cost d f L)))

-- lines in order, none above hi, none farther than so much below it
pub record Extent (L : List ℤ) (hi : ℤ) (span : ℕ) : Type 0 where
  pub ascending : Ascending lt_z L
  pub below : (c : ℤ) → c ∈ L → Le c hi
  pub near : (c : ℤ) → c ∈ L → apart c hi ≤ span

module _ (w : Weights) where
  abbrev price : Place → Place → ℕ
  price = cost w

  -- up to hi, a line's segments are what lies between
  row-cost : (hi y : ℤ) (x : ℤ) (l : List ℤ) → Ascending lt_z (x ∷ l) → Le x hi → ((c : ℤ) → c ∈ l → Le c hi) →
      lengths price (row (x ∷ l) y) ≤ apart x hi * w.across
  unfolding lengths total row nexts cost
  row-cost hi y x [] h i k = omega arith
  row-cost hi y x (z ∷ l) h i k =
      let less = z_lt-true x z (h.0 z (here refl)) in
      let up = k z (here refl) in
      let sum = axis-sum w.across x z z hi x hi
      (omega (signed, apart-ordered x z (omega (signed, less)), apart-ordered z hi up, apart-ordered x hi i)) in
      omega (arith, sum, axis-self w.along y, row-cost hi y z l h.1 up (λ c m. k c (there m)))

  column-cost : (hi x : ℤ) (y : ℤ) (l : List ℤ) → Ascending lt_z (y ∷ l) → Le y hi → ((c : ℤ) → c ∈ l → Le c hi) →
      lengths price (column (y ∷ l) x) ≤ apart y hi * w.along
  unfolding lengths total column nexts cost
  column-cost hi x y [] h i k = omega arith
  column-cost hi x y (z ∷ l) h i k =
      let less = z_lt-true y z (h.0 z (here refl)) in
      let up = k z (here refl) in
      let sum = axis-sum w.along y z z hi y hi
      (omega (signed, apart-ordered y z (omega (signed, less)), apart-ordered z hi up, apart-ordered y hi i)) in
      omega (arith, sum, axis-self w.across x, column-cost hi x z l h.1 up (λ c m. k c (there m)))

  -- n lines, each within some extent
  rows-cost : (xs : List ℤ) (most : ℕ) → ((y : ℤ) → lengths price (row xs y) ≤ most) → (ys : List ℤ) →
      lengths price (rows xs ys) ≤ length ys * most
  unfolding rows lengths total
  rows-cost xs most h [] = omega arith
  rows-cost xs most h (y ∷ ys) =
      omega (arith, lengths-append price (row xs y) (rows xs ys), h y, rows-cost xs most h ys, suc-mul (length ys) most)

  columns-cost : (ys : List ℤ) (most : ℕ) → ((x : ℤ) → lengths price (column ys x) ≤ most) → (xs : List ℤ) →
      lengths price (columns ys xs) ≤ length xs * most
  unfolding columns lengths total
  columns-cost ys most h [] = omega arith
  columns-cost ys most h (x ∷ xs) =
      omega (arith, lengths-append price (column ys x) (columns ys xs), h x, columns-cost ys most h xs, suc-mul (length xs) most)

  any-row : (xs : List ℤ) (hi : ℤ) (span : ℕ) → Extent xs hi span → (y : ℤ) → lengths price (row xs y) ≤ span * w.across
  unfolding lengths total row nexts
  any-row [] hi span e y = omega arith
  any-row (x ∷ l) hi span e y =
      omega (
        arith,
        row-cost hi y x l e.ascending (e.below x (here refl)) (λ c m. e.below c (there m)),
        mul-le-mul_right w.across (e.near x (here refl)),
      )

  any-column : (ys : List ℤ) (hi : ℤ) (span : ℕ) → Extent ys hi span → (x : ℤ) → lengths price (column ys x) ≤ span * w.along
  unfolding lengths total column nexts
  any-column [] hi span e x = omega arith
  any-column (y ∷ l) hi span e x =
      omega (
        arith,
        column-cost hi x y l e.ascending (e.below y (here refl)) (λ c m. e.below c (there m)),
        mul-le-mul_right w.along (e.near y (here refl)),
      )

  pub edges-cost : (xs ys : List ℤ) (ms : List Macro) (hi : ℤ) (span : ℕ) → Extent xs hi span → Extent ys hi span →
      lengths price (edges_of xs ys ms) ≤ length ys * (span * w.across) + length xs * (span * w.along)
  unfolding edges_of
  edges-cost xs ys ms hi span ex ey =
      omega (
        arith,
        those-cost price (λ (e : Edge). clear e.0 e.1 ms) (rows xs ys ++ columns ys xs),
        lengths-append price (rows xs ys) (columns ys xs),
        rows-cost xs (span * w.across) (any-row xs hi span ex) ys,
        columns-cost ys (span * w.along) (any-column ys hi span ey) xs,
      )

-- The lines of an allowed net

near-highest : (c : ℤ) → Near c → (Le c (pos coordinate_bound)) × (apart c (pos coordinate_bound) ≤ coordinate_bound * 2)
near-highest c n =
    let le : Le c (pos coordinate_bound) = omega (signed, n.above, up_pos coordinate_bound, down_pos coordinate_bound) in
    (le, omega (signed, n.below, n.above, apart-ordered c (pos coordinate_bound) le, up_pos coordinate_bound, down_pos coordinate_bound))

pub sides-count : (ms : List Macro) → length (sides ms) ≡ length ms * 2
unfolding sides
sides-count [] = refl
sides-count (m ∷ ms) = omega (arith, sides-count ms)

pub line-count : (axis : Axis) (net : Net) → length (lines_of axis net.pins net.macros) ≤ length net.pins + length net.macros * 2
unfolding lines_of marks
line-count axis net =
    omega (
      arith,
      length-sorted lt_z (map (coordinate axis) (marks net.pins net.macros)),
      length-map (marks net.pins net.macros) (coordinate axis),
      length-append net.pins (sides net.macros),
      sides-count net.macros,
    )

module _ {net : Net} (a : Allowed net) where
  side-range : (axis : Axis) (ms : List Macro) → ((m : Macro) → m ∈ ms → m ∈ net.macros) → (p : Place) → p ∈ sides ms →
      out_of_range (coordinate axis p) ≡ false
  unfolding sides coordinate
  side-range Along [] h p x7 = elim x7 [ ]
  side-range Across [] h p x6 = elim x6 [ ]
  side-range Across (m ∷ ms) h p (here e) = rw e (a.macros-in-range m (h m (here refl))).left
  side-range Across (m ∷ ms) h p (there (here e)) = rw e (a.macros-in-range m (h m (here refl))).right
  side-range Across (m ∷ ms) h p (there (there i)) = side-range Across ms (λ n k. h n (there k)) p i
  side-range Along (m ∷ ms) h p (here e) = rw e (a.macros-in-range m (h m (here refl))).bottom
  side-range Along (m ∷ ms) h p (there (here e)) = rw e (a.macros-in-range m (h m (here refl))).top
  side-range Along (m ∷ ms) h p (there (there i)) = side-range Along ms (λ n k. h n (there k)) p i

  pin-range : (axis : Axis) (p : Place) → p ∈ net.pins → out_of_range (coordinate axis p) ≡ false
  unfolding coordinate
  pin-range Across p i = (a.pins-in-range p i).x
  pin-range Along p i = (a.pins-in-range p i).y

  mark-range : (axis : Axis) (p : Place) → p ∈ marks net.pins net.macros → out_of_range (coordinate axis p) ≡ false
  unfolding marks
  mark-range axis p m =
      either (pin-range axis p) (side-range axis net.macros (λ n k. k) p) (Memᴰ.append_cases net.pins m)

  pub line-range : (axis : Axis) (c : ℤ) → c ∈ lines_of axis net.pins net.macros → out_of_range c ≡ false
  unfolding lines_of
  line-range axis c m =
      let s = of_map (coordinate axis) (marks net.pins net.macros)
      (of-sorted lt_z (map (coordinate axis) (marks net.pins net.macros)) c m) in
      rw s.is (mark-range axis s.entry s.stands)

  extent : (axis : Axis) → Extent (lines_of axis net.pins net.macros) (pos coordinate_bound) (coordinate_bound * 2)
  unfolding lines_of
  extent axis = record {
    ascending = sorted-ascending lt_z line-order (map (coordinate axis) (marks net.pins net.macros));
    below = λ c m. (near-highest c (in-range-near c (line-range axis c m))).0;
    near = λ c m. (near-highest c (in-range-near c (line-range axis c m))).1;
  }

  bound : (k w : ℕ) → k ≤ line_bound → w ≤ weight_bound → k * (coordinate_bound * 2 * w) ≤ line_bound * (coordinate_bound * 2 * weight_bound)
  bound k w h i = mul-le-mul h (let z : coordinate_bound * 2 * w ≤ coordinate_bound * 2 * weight_bound = omega (arith, i) in z)

  -- what all edges of the grid cost together
  pub grid-cost : length net.pins ≤ grid_pins → length net.macros ≤ grid_macros → lengths (cost_in net) (grid_edges net) < unreached
  unfolding grid_edges
  grid-cost h k =
      omega (
        arith,
        edges-cost net.weights (x_lines net) (y_lines net) net.macros (pos coordinate_bound) (coordinate_bound * 2) (extent Across)
            (extent Along),
        bound (length (y_lines net)) net.weights.across (omega (arith, h, k, line-count Along net)) a.weighted.across,
        bound (length (x_lines net)) net.weights.along (omega (arith, h, k, line-count Across net)) a.weighted.along,
      )
