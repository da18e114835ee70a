-- The spanning graph of a net: which vertices and which edges it has.
use Rattle.std.specs.Prelude.{◌≡◌, true, false, ◌⊎◌, ◌↔◌, List, ◌≤◌}
use Rattle.std.specs.Int.Signed.{lt_z, le_z}
use Rattle.lists.specs.Member.{◌∈◌}
use Rattle.lists.specs.Sorted.{Ascending}
use Rattle.plane.specs.declared.Place.{Place}
use Rattle.plane.specs.declared.Macro.{Macro}
use Rattle.plane.specs.Place.{before}
use Rattle.plane.specs.Macro.{clear}
use Rattle.net.specs.Net.{Net, cost_in}
use Rattle.rules.specs.Edges.{Edge, edge_before}

-- N3: v is one of the four corners of m
abbrev pub CornerOf : Macro → Place → Type 0
CornerOf m v = ((v.x ≡ m.left) ⊎ (v.x ≡ m.right)) × ((v.y ≡ m.bottom) ⊎ (v.y ≡ m.top))

-- G1: the vertices are the pins and the macros' corners
abbrev pub Vertex : Net → Place → Type 0
Vertex net v = (v ∈ net.pins) ⊎ ((m : Macro) × ((m ∈ net.macros) × CornerOf m v))

-- G2: the four quadrants of a vertex, from the upper right one round to the left
pub data Quadrant : Type 0 where
  first : Quadrant
  second : Quadrant
  third : Quadrant
  fourth : Quadrant

-- G2: v lies in this quadrant of u
abbrev pub Lies : Quadrant → Place → Place → Type 0
Lies first u v = (lt_z u.x v.x ≡ true) × (le_z u.y v.y ≡ true)
Lies second u v = (le_z v.x u.x ≡ true) × (lt_z u.y v.y ≡ true)
Lies third u v = (lt_z v.x u.x ≡ true) × (le_z v.y u.y ≡ true)
Lies fourth u v = (le_z u.x v.x ≡ true) × (lt_z v.y u.y ≡ true)

module _ (net : Net) (vs : List Place) where
  -- G4: u may pick v in the quadrant q: a vertex that lies there and is clear of u
  pub record May (q : Quadrant) (u v : Place) : Type 0 where
    pub vertex : v ∈ vs
    pub lies : Lies q u v
    pub seen : clear u v net.macros ≡ true

  -- G4: u picks v: in some quadrant the nearest that it may, and of those the smallest place
  pub record Picks (u v : Place) : Type 0 where
    pub quadrant : Quadrant
    pub may : May quadrant u v
    pub nearest : (w : Place) → May quadrant u w → cost_in net u v ≤ cost_in net u w
    pub smallest : (w : Place) → May quadrant u w → cost_in net u w ≡ cost_in net u v → before w v ≡ false

  -- G5: u and v are joined by an edge, written smaller place first (N16): one vertex picks the other
  pub record Neighbours (u v : Place) : Type 0 where
    pub smaller : before u v ≡ true
    pub one : u ∈ vs
    pub other : v ∈ vs
    pub picked : Picks u v ⊎ Picks v u

-- G1, G5: vs are the vertices and es the edges of the net's graph, both in order, so each once
pub record Spanning (net : Net) (vs : List Place) (es : List Edge) : Type 0 where
  pub vertices : (v : Place) → (v ∈ vs) ↔ Vertex net v
  pub vertices-in-order : Ascending before vs
  pub edges : (u v : Place) → ((u, v) ∈ es) ↔ Neighbours net vs u v
  pub edges-in-order : Ascending edge_before es
