-- The grid moves with the net, and the table of distances stays.
-- Assumes nothing.
use mathlib.Core.Path.{◌≡◌, refl, sym, ap, ap₂, ◌∙◌, subst}
use mathlib.Core.List.{List, [], ◌∷◌, ◌++◌, map}
use Prim.Native.Nat.{ℕ, ◌+◌, ◌*◌, ◌<◌}
use native.Mathlib.Omega.{arith}
use lib.IntN.{ℤ, pos, ◌+ℤ◌}
use lib.ListN.{length, get_or, length-map}
use lib.Signed.{lt_z}
use Rattle.lists.specs.Those.{those}
use Rattle.lists.specs.Sorted.{sorted}
use Rattle.lists.proofs.MapLaws.{get_d_map}
use Rattle.joined.specs.Way.{Way, long}
use Rattle.plane.specs.declared.Place.{Place}
use Rattle.plane.specs.declared.Macro.{Macro}
use Rattle.plane.specs.Place.{place, before}
use Rattle.plane.specs.Macro.{clear}
use Rattle.net.specs.Net.{Net, cost_in}
use Rattle.net.specs.Allowed.{Allowed}
use Rattle.lines.specs.declared.Axis.{Axis}
use Rattle.lines.specs.declared.Axis.TheVariants.{Across, Along}
use Rattle.lines.specs.Lines.{coordinate, sides, marks, lines_of, x_lines, y_lines}
use Rattle.lines.specs.Edges.{Edge, nexts, row, column, rows, columns, edges_of, grid_edges}
use Rattle.grid.specs.Distance.{GridDistance, pins_in_order, pin_in_order, entry_at, Square}
use Rattle.grid.proofs.NetDistance.{order-count}
use Rattle.rules.specs.Moved.{moved_edge}
use Rattle.site.specs.Shift.{shift, shift_macro, shift_net}
use Rattle.site.proofs.ShiftLaws.{lt-there, before-there, clear-there}
use Rattle.site.proofs.ListShift.{those-there, sorted-there}
use Rattle.rules.proofs.TreesMoved.{Moved, moved-map, long-there, long-to, way-there, way_back}
use Rattle.site.proofs.NetShift.{unshift, unshifted, moves}
use Rattle.site.proofs.BarShift.{F, E, map-append, map-map}

module _ (dx dy : ℤ) where
  abbrev by_x : ℤ → ℤ
  by_x z = z +ℤ dx

  abbrev by_y : ℤ → ℤ
  by_y z = z +ℤ dy

  -- Lines

  sides-there : (ms : List Macro) → sides (map (shift_macro dx dy) ms) ≡ map (F dx dy) (sides ms)
  unfolding sides
  sides-there [] = refl
  sides-there (m ∷ ms) =
      ap (λ (l : List Place). place (m.left +ℤ dx) (m.bottom +ℤ dy) ∷ (place (m.right +ℤ dx) (m.top +ℤ dy) ∷ l)) (sides-there ms)

  marks-there : (net : Net)
      → marks (shift_net dx dy net).pins (shift_net dx dy net).macros ≡ map (F dx dy) (marks net.pins net.macros)
  unfolding marks
  marks-there net =
      ap (λ (l : List Place). map (F dx dy) net.pins ++ l) (sides-there net.macros)
      ∙ sym (map-append (F dx dy) net.pins (sides net.macros))

  x-there : (net : Net) → x_lines (shift_net dx dy net) ≡ map by_x (x_lines net)
  unfolding lines_of coordinate
  x-there net =
      ap (λ (l : List Place). sorted lt_z (map (coordinate Across) l)) (marks-there net)
      ∙ ap (sorted lt_z) (map-map (F dx dy) (coordinate Across) (coordinate Across) by_x (λ p. refl) (marks net.pins net.macros))
      ∙ sorted-there by_x lt_z lt_z (lt-there dx) (map (coordinate Across) (marks net.pins net.macros))

  y-there : (net : Net) → y_lines (shift_net dx dy net) ≡ map by_y (y_lines net)
  unfolding lines_of coordinate
  y-there net =
      ap (λ (l : List Place). sorted lt_z (map (coordinate Along) l)) (marks-there net)
      ∙ ap (sorted lt_z) (map-map (F dx dy) (coordinate Along) (coordinate Along) by_y (λ p. refl) (marks net.pins net.macros))
      ∙ sorted-there by_y lt_z lt_z (lt-there dy) (map (coordinate Along) (marks net.pins net.macros))

  -- Edges

  nexts-there : (f : ℤ → ℤ) (l : List ℤ) → nexts (map f l) ≡ map (λ (s : ℤ × ℤ). (f s.0, f s.1)) (nexts l)
  unfolding nexts
  nexts-there f [] = refl
  nexts-there f (a ∷ []) = refl
  nexts-there f (a ∷ (b ∷ l)) = ap (λ (r : List (ℤ × ℤ)). (f a, f b) ∷ r) (nexts-there f (b ∷ l))

  row-there : (xs : List ℤ) (y : ℤ) → row (map by_x xs) (by_y y) ≡ map (E dx dy) (row xs y)
  unfolding row
  row-there xs y =
      ap (map (λ (s : ℤ × ℤ). (place s.0 (by_y y), place s.1 (by_y y)))) (nexts-there by_x xs)
      ∙ map-map (λ (s : ℤ × ℤ). (by_x s.0, by_x s.1)) (λ (s : ℤ × ℤ). (place s.0 (by_y y), place s.1 (by_y y)))
      (λ (s : ℤ × ℤ). (place s.0 y, place s.1 y)) (E dx dy) (λ s. refl) (nexts xs)

  column-there : (ys : List ℤ) (x : ℤ) → column (map by_y ys) (by_x x) ≡ map (E dx dy) (column ys x)
  unfolding column
  column-there ys x =
      ap (map (λ (s : ℤ × ℤ). (place (by_x x) s.0, place (by_x x) s.1))) (nexts-there by_y ys)
      ∙ map-map (λ (s : ℤ × ℤ). (by_y s.0, by_y s.1)) (λ (s : ℤ × ℤ). (place (by_x x) s.0, place (by_x x) s.1))
      (λ (s : ℤ × ℤ). (place x s.0, place x s.1)) (E dx dy) (λ s. refl) (nexts ys)

  rows-there : (xs ys : List ℤ) → rows (map by_x xs) (map by_y ys) ≡ map (E dx dy) (rows xs ys)
  unfolding rows
  rows-there xs [] = refl
  rows-there xs (y ∷ ys) = ap₂ ◌++◌ (row-there xs y) (rows-there xs ys) ∙ sym (map-append (E dx dy) (row xs y) (rows xs ys))

  columns-there : (ys xs : List ℤ) → columns (map by_y ys) (map by_x xs) ≡ map (E dx dy) (columns ys xs)
  unfolding columns
  columns-there ys [] = refl
  columns-there ys (x ∷ xs) = ap₂ ◌++◌ (column-there ys x) (columns-there ys xs) ∙ sym (map-append (E dx dy) (column ys x) (columns ys xs))

  edges-there : (xs ys : List ℤ) (ms : List Macro) →
      edges_of (map by_x xs) (map by_y ys) (map (shift_macro dx dy) ms) ≡ map (E dx dy) (edges_of xs ys ms)
  unfolding edges_of
  edges-there xs ys ms =
      ap (those (λ (e : Edge). clear e.0 e.1 (map (shift_macro dx dy) ms)))
      (ap₂ ◌++◌ (rows-there xs ys) (columns-there ys xs) ∙ sym (map-append (E dx dy) (rows xs ys) (columns ys xs)))
      ∙ those-there (E dx dy) (λ (e : Edge). clear e.0 e.1 ms) (λ (e : Edge). clear e.0 e.1 (map (shift_macro dx dy) ms))
      (λ e. clear-there dx dy e.0 e.1 ms) (rows xs ys ++ columns ys xs)

  pub grid-edges-there : (net : Net) → grid_edges (shift_net dx dy net) ≡ map (E dx dy) (grid_edges net)
  unfolding grid_edges
  grid-edges-there net =
      ap₂ (λ (xs ys : List ℤ). edges_of xs ys (shift_net dx dy net).macros) (x-there net) (y-there net)
      ∙ edges-there (x_lines net) (y_lines net) net.macros

  -- Distances

  grid-moved : (net : Net) → Moved (F dx dy) (unshift dx dy) (grid_edges net) (grid_edges (shift_net dx dy net))
  grid-moved net = rw (grid-edges-there net) (moved-map (moves dx dy net) (grid_edges net))

  distance-there : {net : Net} {p q : Place} {n : ℕ} → GridDistance net p q n →
      GridDistance (shift_net dx dy net) (F dx dy p) (F dx dy q) n
  distance-there {net} {p} {q} d = record {
    points = map (F dx dy) d.points;
    way = way-there (moves dx dy net) (grid-moved net) d.way;
    costs = long-there (moves dx dy net) p d.points ∙ d.costs;
    least =
        λ qs w.
        let v : Way (grid_edges net) p (map (unshift dx dy) qs) q =
        subst (Way (grid_edges net) p (map (unshift dx dy) qs)) (unshifted dx dy q)
        (way_back (moves dx dy net) (grid-moved net) w) in
        omega (arith, d.least (map (unshift dx dy) qs) v, long-to (moves dx dy net) p qs);
  }

  pin-there : {net : Net} → Allowed net → (i : ℕ) → i < length net.pins →
      pin_in_order (shift_net dx dy net) i ≡ F dx dy (pin_in_order net i)
  pin-there {net} a i h =
      ap (λ (l : List Place). get_or l i (place (pos 0) (pos 0))) (sorted-there (F dx dy) before before (before-there dx dy) net.pins)
      ∙ get_d_map (F dx dy) (pins_in_order net) i (place (pos 0) (pos 0)) (place (pos 0) (pos 0)) (omega (arith, h, order-count a))

  pub square-there : {net : Net} → Allowed net → (numbers : List ℕ) → Square net numbers → Square (shift_net dx dy net) numbers
  square-there {net} a numbers s =
      let many : length (map (F dx dy) net.pins) ≡ length net.pins = length-map net.pins (F dx dy) in
      record {
        size = s.size ∙ sym (ap₂ (λ (m n : ℕ). m * n) many many);
        each =
            λ i j h k.
            let h' : i < length net.pins = omega (arith, h, many) in
            let k' : j < length net.pins = omega (arith, k, many) in
            subst (GridDistance (shift_net dx dy net) (pin_in_order (shift_net dx dy net) i) (pin_in_order (shift_net dx dy net) j))
            (ap (λ (m : ℕ). get_or numbers (i * m + j) 0) (sym many))
            (subst (λ (p : Place). GridDistance (shift_net dx dy net) p (pin_in_order (shift_net dx dy net) j) (entry_at net numbers i j))
            (sym (pin-there a i h'))
            (subst (λ (q : Place). GridDistance (shift_net dx dy net) (F dx dy (pin_in_order net i)) q (entry_at net numbers i j))
            (sym (pin-there a j k')) (distance-there (s.each i j h' k'))));
      }
