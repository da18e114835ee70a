-- L3: the grid's edges as a list that computes: each crossing with the next on its line, those that are clear of each other.
use Rattle.std.specs.Prelude.{List, [], ◌∷◌, ◌++◌, map, ℤ}
use Rattle.lists.specs.Those.{those}
use Rattle.plane.specs.declared.Place.{Place}
use Rattle.plane.specs.declared.Macro.{Macro}
use Rattle.plane.specs.Place.{place}
use Rattle.plane.specs.Macro.{clear}
use Rattle.net.specs.Net.{Net}
use Rattle.lines.specs.Lines.{x_lines, y_lines}

-- each entry with the one after it
unfoldable pub nexts : List ℤ → List (ℤ × ℤ)
nexts [] = []
nexts (a ∷ []) = []
nexts (a ∷ (b ∷ l)) = (a, b) ∷ nexts (b ∷ l)

abbrev pub Edge : Type 0
Edge = Place × Place

-- the segments between the lines xs at one y, and between the lines ys at one x
unfoldable pub row : List ℤ → ℤ → List Edge
row xs y = map (λ (s : ℤ × ℤ). (place s.0 y, place s.1 y)) (nexts xs)

unfoldable pub column : List ℤ → ℤ → List Edge
column ys x = map (λ (s : ℤ × ℤ). (place x s.0, place x s.1)) (nexts ys)

unfoldable pub rows : List ℤ → List ℤ → List Edge
rows xs [] = []
rows xs (y ∷ ys) = row xs y ++ rows xs ys

unfoldable pub columns : List ℤ → List ℤ → List Edge
columns ys [] = []
columns ys (x ∷ xs) = column ys x ++ columns ys xs

unfoldable pub edges_of : List ℤ → List ℤ → List Macro → List Edge
edges_of xs ys ms = those (λ (e : Edge). clear e.0 e.1 ms) (rows xs ys ++ columns ys xs)

unfoldable pub grid_edges : Net → List Edge
grid_edges net = edges_of (x_lines net) (y_lines net) net.macros
