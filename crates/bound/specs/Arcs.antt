-- The edges of a net's grid by the numbers of arcs. A crossing is numbered by its line across, then by its line along, with room for 384
-- lines along each axis; arc a leads to crossing a / 4 from its neighbour on the right, on the left, above or below.
use Rattle.std.specs.Prelude.{◌≡◌, Bool, true, false, ◌&&◌, List, ℕ, suc, ◌+◌, ◌*◌, ◌/◌, ◌%◌, ◌≤◌, ◌<◌, ltb, eqb, ℤ, pos, length, get_or}
use Rattle.std.specs.Int.Signed.{lt_z}
use Rattle.lists.specs.Sorted.{position}
use Rattle.plane.specs.declared.Place.{Place}
use Rattle.plane.specs.declared.Macro.{Macro}
use Rattle.plane.specs.declared.Weights.{Weights}
use Rattle.plane.specs.Place.{place}
use Rattle.plane.specs.Cost.{cost}
use Rattle.plane.specs.Macro.{clear}
use Rattle.net.specs.Bounds.{cost_bound}
use Rattle.lines.specs.declared.Grid.{Grid}
use Rattle.grid.specs.Rows.{at}
use Rattle.sweeps.specs.Tables.{wide_lines, arc_bound, source}

-- the number of the crossing of line i across and line j along; and of a place, by the lists of lines
abbrev pub spot_number : ℕ → ℕ → ℕ
spot_number i j = i * wide_lines + j

unfoldable pub wide_number : List ℤ → List ℤ → Place → ℕ
wide_number xs ys v = spot_number (position lt_z xs v.x) (position lt_z ys v.y)

-- no more lines than the tables have room for
pub record WideLines (g : Grid) : Type 0 where
  pub across : g.across ≤ wide_lines
  pub along : g.along ≤ wide_lines

-- the place of a crossing, by the tables of lines
abbrev pub wide_at : List ℤ → List ℤ → ℕ → Place
wide_at xs ys v = place (get_or xs (v / wide_lines) (pos 0)) (get_or ys (v % wide_lines) (pos 0))

-- no two crossings are farther apart than two places of an allowed net
abbrev pub WidePriced : Weights → List ℤ → List ℤ → Type 0
WidePriced w xs ys = (u v : ℕ) → cost w (wide_at xs ys u) (wide_at xs ys v) ≤ cost_bound

-- both ends of an arc are within the lines
abbrev pub within : Grid → ℕ → ℕ → Bool
within g i j = ltb i g.across && ltb j g.along

unfoldable pub is_arc : Grid → ℕ → Bool
is_arc g a =
    elim (eqb (a % 4) 0) [
      | true ↦ within g (a / 4 / wide_lines) (a / 4 % wide_lines) && ltb (a / 4 / wide_lines + 1) g.across
      | false ↦
          elim (eqb (a % 4) 1) [
            | true ↦ within g (a / 4 / wide_lines) (a / 4 % wide_lines) && ltb 0 (a / 4 / wide_lines)
            | false ↦
                elim (eqb (a % 4) 2) [
                  | true ↦ within g (a / 4 / wide_lines) (a / 4 % wide_lines) && ltb (a / 4 % wide_lines + 1) g.along
                  | false ↦ within g (a / 4 / wide_lines) (a / 4 % wide_lines) && ltb 0 (a / 4 % wide_lines)
                ]
          ]
    ]

-- what an edge costs and one more, 0 where it meets an interior
unfoldable pub edge_number : Weights → List Macro → Place → Place → ℕ
edge_number w ms a b = elim (clear a b ms) [ true ↦ suc (cost w a b) | false ↦ 0 ]

unfoldable pub arc_number : Weights → List Macro → Grid → List ℤ → List ℤ → ℕ → ℕ
arc_number w ms g xs ys a =
    elim (is_arc g a) [ true ↦ edge_number w ms (wide_at xs ys (source a)) (wide_at xs ys (a / 4)) | false ↦ 0 ]

-- the first n numbers of a table of arcs
pub record ArcsTo (w : Weights) (ms : List Macro) (g : Grid) (xs ys : List ℤ) (n : ℕ) (left : List ℕ) : Type 0 where
  pub size : length left ≡ arc_bound
  pub each : (a : ℕ) → a < n → at left a ≡ arc_number w ms g xs ys a
