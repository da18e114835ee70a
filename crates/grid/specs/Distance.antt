-- L5 to L8: the true distance of two places, and the table of a net's pins.
use Rattle.std.specs.Prelude.{◌≡◌, List, map, ℕ, ◌+◌, ◌*◌, ◌≤◌, ◌<◌, ℤ, pos, length, get_or}
use Rattle.lists.specs.Member.{◌∈◌}
use Rattle.lists.specs.Sorted.{sorted}
use Rattle.joined.specs.Joined.{Joined}
use Rattle.joined.specs.Way.{Way, long}
use Rattle.lent.specs.Over.{over}
use Rattle.plane.specs.declared.Place.{Place}
use Rattle.plane.specs.Place.{place, before}
use Rattle.net.specs.Net.{Net, cost_in}
use Rattle.graph.specs.Spanning.{spanning}
use Rattle.grid.specs.Walk.{Walk}
use Rattle.lines.specs.Lines.{UnitStep}
use Rattle.lines.specs.Edges.{grid_edges}

-- L5: n is the cheapest cost of p and q along the grid: a way along its edges costs just that, and none costs less
pub record GridDistance (net : Net) (p q : Place) (n : ℕ) : Type 0 where
  pub points : List Place
  pub way : Way (grid_edges net) p points q
  pub costs : long (cost_in net) p points ≡ n
  pub least : (qs : List Place) → Way (grid_edges net) p qs q → n ≤ long (cost_in net) p qs

-- L7: and it is true: a walk in unit steps, each clear of the interiors, costs just that, and none costs less
pub record TrueDistance (net : Net) (p q : Place) (n : ℕ) : Type 0 where
  pub points : List Place
  pub walk : Walk (UnitStep net.macros) p points q
  pub costs : long (cost_in net) p points ≡ n
  pub least : (qs : List Place) → Walk (UnitStep net.macros) p qs q → n ≤ long (cost_in net) p qs

-- L6: the pins in the order of places
abbrev pub pins_in_order : Net → List Place
pins_in_order net = sorted before net.pins

abbrev pub pin_in_order : Net → ℕ → Place
pin_in_order net i = get_or (pins_in_order net) i (place (pos 0) (pos 0))

-- the number at i·m + j of a table of m numbers a row
abbrev pub entry_at : Net → List ℕ → ℕ → ℕ → ℕ
entry_at net numbers i j = get_or numbers (i * length net.pins + j) 0

-- the first r rows of the table: the number at i·m + j is the distance of the pins i and j
pub record Rows (net : Net) (r : ℕ) (numbers : List ℕ) : Type 0 where
  pub size : length numbers ≡ r * length net.pins
  pub each : (i j : ℕ) → i < r → j < length net.pins →
      GridDistance net (pin_in_order net i) (pin_in_order net j) (entry_at net numbers i j)

-- L6: the square table of a net
abbrev pub Square : Net → List ℕ → Type 0
Square net numbers = Rows net (length net.pins) numbers

-- such numbers, at the front of a lent list: what `lent` has become
pub record SquareOver (net : Net) (lent lent' : List ℤ) : Type 0 where
  pub numbers : List ℕ
  pub square : Square net numbers
  pub list : lent' ≡ over (map pos numbers) lent

-- L7, L8: what holds of the square table of an allowed net
pub record TrueSquare (net : Net) (numbers : List ℕ) : Type 0 where
  -- no walk in clear unit steps joins two pins for less, and one costs just that
  pub each : (i j : ℕ) → i < length net.pins → j < length net.pins →
      TrueDistance net (pin_in_order net i) (pin_in_order net j) (entry_at net numbers i j)
  -- the same both ways, with 0 from each pin to itself
  pub even : (i j : ℕ) → i < length net.pins → j < length net.pins → entry_at net numbers i j ≡ entry_at net numbers j i
  pub diagonal : (i : ℕ) → i < length net.pins → entry_at net numbers i i ≡ 0
  -- a way along the spanning graph is never cheaper
  pub graph : (i j : ℕ) → i < length net.pins → j < length net.pins → (ps : List Place) →
      Way (spanning net) (pin_in_order net i) ps (pin_in_order net j) → entry_at net numbers i j ≤ long (cost_in net) (pin_in_order net i) ps
  -- each two pins are joined along the grid
  pub joined : (p q : Place) → p ∈ net.pins → q ∈ net.pins → Joined (grid_edges net) p q
