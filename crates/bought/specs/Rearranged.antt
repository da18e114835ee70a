-- V8: the same edges in another order, any of them given from its other end; and flat lists that hold them.
use Rattle.std.specs.Prelude.{◌≡◌, List, [], ◌∷◌, ℤ, length}
use Rattle.plane.specs.declared.Place.{Place}
use Rattle.bought.specs.Edges.{Edge, edges_of}

pub data Rearranged : List Edge → List Edge → Type 0 where
  none : Rearranged [] []
  keep : {e : Edge} {T U : List Edge} → Rearranged T U → Rearranged (e ∷ T) (e ∷ U)
  turn : {a b : Place} {T U : List Edge} → Rearranged T U → Rearranged ((a, b) ∷ T) ((b, a) ∷ U)
  swap : {e f : Edge} {T : List Edge} → Rearranged (e ∷ (f ∷ T)) (f ∷ (e ∷ T))
  then : {T U W : List Edge} → Rearranged T U → Rearranged U W → Rearranged T W

pub record SameEdges (s s' : List ℤ) : Type 0 where
  pub many : length s ≡ length s'
  pub order : Rearranged (edges_of s) (edges_of s')
