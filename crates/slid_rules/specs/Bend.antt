-- The refined tree made of straight edges: rules M2 to M4.
use Rattle.std.specs.Prelude.{◌≡◌, true, false, ◌⊎◌, List, [], ◌∷◌}
use Rattle.lists.specs.Member.{◌∈◌}
use Rattle.plane.specs.declared.Place.{Place}
use Rattle.graph.specs.Edges.{edge_of}
use Rattle.slide.specs.Bend.{Edge, straight, x_first, y_first}

-- M2, M3: the slanted edge e bends at c, along x first or, where a tree point or an earlier bend has that place,
-- along y first; X are the tree points and the bends so far, and none of them is at c
pub record BendAt (X : List Place) (e : Edge) (c : Place) : Type 0 where
  pub slanted : straight e ≡ false
  pub where_to : (c ≡ x_first e) ⊎ ((x_first e ∈ X) × (c ≡ y_first e))
  pub untaken : c ∈ X → ⊥

-- M2: the edges of T in their order, a bend for each slanted one: Y are the points and U the edges after it
abbrev pub Bends : List Place → List Edge → List Place → List Edge → Type 0
Bends X [] Y U = (Y ≡ X) × (U ≡ [])
Bends X (e ∷ T) Y U =
    ((straight e ≡ true) × ((W : List Edge) × (Bends X T Y W × (U ≡ e ∷ W))))
    ⊎ ((c : Place) × (BendAt X e c × ((W : List Edge) ×
    (Bends (c ∷ X) T Y W × (U ≡ edge_of e.0 c ∷ (edge_of c e.1 ∷ W))))))

-- M4: of some edge both places are taken when its turn comes
abbrev pub GivenBack : List Place → List Edge → Type 0
GivenBack X [] = ⊥
GivenBack X (e ∷ T) =
    ((straight e ≡ true) × GivenBack X T)
    ⊎ (((straight e ≡ false) × ((x_first e ∈ X) × (y_first e ∈ X)))
    ⊎ ((c : Place) × (BendAt X e c × GivenBack (c ∷ X) T)))
