-- Bending as a program does it, from the first edge on.
use Rattle.std.specs.Prelude.{◌≡◌, true, false, Option, Some, None, List, ℕ, ◌+◌, ◌*◌, ℤ, length}
use Rattle.std.proofs.lemmas.List.Edits.{sets}
use Rattle.plane.specs.declared.Place.{Place}
use Rattle.graph.specs.Edges.{edge_of}
use Rattle.graph.specs.Numbers.{place_numbers, edge_numbers}
use Rattle.slide.specs.Bend.{Edge, x_first, y_first, taken, Bent, bent, given_back}
use Rattle.tree.specs.declared.Size.{Size}
use Rattle.settled.specs.Settled.{edges_of}

-- M3: where a slanted edge bends, X being the tree points and the bends so far; nowhere if both places are taken
unfoldable pub corner_of : List Place → Edge → Option Place
corner_of X e =
    elim (taken X (x_first e)) [
      | false ↦ Some (x_first e)
      | true ↦ elim (taken X (y_first e)) [ false ↦ Some (y_first e) | true ↦ None ]
    ]

abbrev pub counts : ℕ → ℕ → Size
counts n e = record { points = n; edges = e }

-- the edge e by way of c: c is put after the points, and two edges after the edges
pub record BentAt (c : Place) (e : Edge) (at : Size) (pts out : List ℤ) (r : Size) (pts' out' : List ℤ) : Type 0 where
  pub placed : pts' ≡ sets pts (at.points * 2) (place_numbers c)
  pub edged : out' ≡ sets (sets out (at.edges * 4) (edge_numbers (edge_of e.0 c))) ((at.edges + 1) * 4) (edge_numbers (edge_of c e.1))
  pub counted : r ≡ counts (at.points + 1) (at.edges + 2)

-- what a slanted edge comes to, by where it bends
abbrev pub BentWhere : Option Place → Edge → Size → List ℤ → List ℤ → Option Size → List ℤ → List ℤ → Type 0
BentWhere (Some c) e at pts out (Some r) pts' out' = BentAt c e at pts out r pts' out'
BentWhere (Some c) e at pts out None pts' out' = ⊥
BentWhere None e at pts out r pts' out' = r ≡ None

-- what was bent, as it was found in the space for it
abbrev pub BentBy : Bent → Option Size → List ℤ → Type 0
BentBy (bent X U) (Some r) out = (r.points ≡ length X) × ((r.edges ≡ length U) × (edges_of out r.edges ≡ U))
BentBy (bent X U) None out = ⊥
BentBy given_back r out = r ≡ None
