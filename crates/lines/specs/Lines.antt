-- L1, L3, L4: the lines of a net, crossings, and steps along the grid, of one unit and along clear edges.
use Rattle.std.specs.Prelude.{◌≡◌, true, ◌⊎◌, List, [], ◌∷◌, ◌++◌, map, ℤ}
use Rattle.std.specs.Int.Signed.{lt_z}
use Rattle.lists.specs.Member.{◌∈◌}
use Rattle.lists.specs.Sorted.{sorted}
use Rattle.signed.specs.Sides.{Lt}
use Rattle.plane.specs.declared.Place.{Place}
use Rattle.plane.specs.declared.Macro.{Macro}
use Rattle.plane.specs.Place.{place}
use Rattle.plane.specs.Distance.{distance}
use Rattle.plane.specs.Macro.{clear}
use Rattle.net.specs.Net.{Net}
use Rattle.lines.specs.declared.Axis.{Axis}
use Rattle.lines.specs.declared.Axis.TheVariants.{Across, Along}

-- Lines

-- the coordinate of a place along an axis
unfoldable pub coordinate : Axis → Place → ℤ
coordinate Across p = p.x
coordinate Along p = p.y

-- the places whose coordinates are lines: the pins, and for each macro two corners, which have all four of its sides
unfoldable pub sides : List Macro → List Place
sides [] = []
sides (m ∷ ms) = place m.left m.bottom ∷ (place m.right m.top ∷ sides ms)

unfoldable pub marks : List Place → List Macro → List Place
marks pins ms = pins ++ sides ms

-- L1: all x values, or all y values, of pins and macro sides, in order and each once
unfoldable pub lines_of : Axis → List Place → List Macro → List ℤ
lines_of axis pins ms = sorted lt_z (map (coordinate axis) (marks pins ms))

abbrev pub x_lines : Net → List ℤ
x_lines net = lines_of Across net.pins net.macros

abbrev pub y_lines : Net → List ℤ
y_lines net = lines_of Along net.pins net.macros

-- the sides of all macros are lines
pub record Sides (xs ys : List ℤ) (ms : List Macro) : Type 0 where
  pub left : (m : Macro) → m ∈ ms → m.left ∈ xs
  pub right : (m : Macro) → m ∈ ms → m.right ∈ xs
  pub bottom : (m : Macro) → m ∈ ms → m.bottom ∈ ys
  pub top : (m : Macro) → m ∈ ms → m.top ∈ ys

-- a place where two lines cross
pub record Crossing (xs ys : List ℤ) (a : Place) : Type 0 where
  pub across : a.x ∈ xs
  pub along : a.y ∈ ys

-- two lines with none between them
pub record Neighbours (L : List ℤ) (a b : ℤ) : Type 0 where
  pub first : a ∈ L
  pub second : b ∈ L
  pub rise : Lt a b
  pub none : (c : ℤ) → c ∈ L → Lt a c → Lt c b → ⊥

-- the same, named either way
abbrev pub Beside : List ℤ → ℤ → ℤ → Type 0
Beside L a b = Neighbours L a b ⊎ Neighbours L b a

-- Steps

-- L3: neighbouring crossings whose segment meets no interior
pub data GridStep (xs ys : List ℤ) (ms : List Macro) (a b : Place) : Type 0 where
  across : Beside xs a.x b.x → a.y ≡ b.y → a.y ∈ ys → clear a b ms ≡ true → GridStep xs ys ms a b
  along : Beside ys a.y b.y → a.x ≡ b.x → a.x ∈ xs → clear a b ms ≡ true → GridStep xs ys ms a b

-- L4: one unit along one axis, clear of the interiors; nothing keeps it on the die
pub record UnitStep (ms : List Macro) (a b : Place) : Type 0 where
  pub unit : distance a b ≡ 1
  pub free : clear a b ms ≡ true

-- an edge of the spanning graph, or of any tree that is laid: the box of its two ends is clear
abbrev pub ClearStep : List Macro → Place → Place → Type 0
ClearStep ms a b = clear a b ms ≡ true
