-- The refined tree made of straight edges: rules M2 to M4.
use Rattle.std.specs.Prelude.{Bool, true, false, ◌||◌, List, [], ◌∷◌}
use Rattle.lists.specs.Any.{any}
use Rattle.signed.specs.Order.{z_eq}
use Rattle.plane.specs.declared.Place.{Place}
use Rattle.plane.specs.Place.{place, same_place}
use Rattle.graph.specs.Edges.{edge_of}

-- N16: an edge is a pair of places
abbrev pub Edge : Type 0
Edge = Place × Place

-- M2: along one axis
unfoldable pub straight : Edge → Bool
straight e = z_eq e.0.x e.1.x || z_eq e.0.y e.1.y

-- M2: where a slanted edge bends if it goes along x first, and if along y first
unfoldable pub x_first : Edge → Place
x_first e = place e.1.x e.0.y

unfoldable pub y_first : Edge → Place
y_first e = place e.0.x e.1.y

-- M3: one of these points stands at c
unfoldable pub taken : List Place → Place → Bool
taken X c = any (same_place c) X

-- the points and the edges after bending; or, M4, the tree is given back
pub data Bent : Type 0 where
  bent : List Place → List Edge → Bent
  given_back : Bent

unfoldable pub kept : Edge → Bent → Bent
kept e (bent X T) = bent X (e ∷ T)
kept e given_back = given_back

-- M2: the edge e by way of its bend
unfoldable pub through : Edge → Place → Bent → Bent
through e c r = kept (edge_of e.0 c) (kept (edge_of c e.1) r)

-- M2 to M4: the edges T one after the other, where X are the tree points and the bends so far
unfoldable pub bends : List Place → List Edge → Bent
bends X [] = bent X []
bends X (e ∷ T) =
    elim (straight e) [
      | true ↦ kept e (bends X T)
      | false ↦
          elim (taken X (x_first e)) [
            | false ↦ through e (x_first e) (bends (x_first e ∷ X) T)
            | true ↦
                elim (taken X (y_first e)) [ false ↦ through e (y_first e) (bends (y_first e ∷ X) T) | true ↦ given_back ]
          ]
    ]
