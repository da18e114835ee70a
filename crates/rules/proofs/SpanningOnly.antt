-- The spanning graph has one solution: its vertices and its edges are said by what stands in them, and an ascending list is determined by
-- that.
-- Assumes nothing.
use mathlib.Core.Path.{◌≡◌, subst}
use mathlib.Core.List.{List}
use Rattle.lists.proofs.SortedLaws.{ascending-same}
use Rattle.plane.specs.declared.Place.{Place}
use Rattle.plane.specs.Place.{before}
use Rattle.plane.proofs.PlaceOrder.{place-order}
use Rattle.net.specs.Net.{Net}
use Rattle.rules.specs.Edges.{Edge, edge_before}
use Rattle.rules.specs.Spanning.{Neighbours, Spanning}
use Rattle.rules.proofs.EdgeLaws.{edge_order}

module _ {net : Net} {vs ws : List Place} {es fs : List Edge}
    (s : Spanning net vs es) (t : Spanning net ws fs) where
  pub vertices-one : vs ≡ ws
  vertices-one =
      ascending-same before place-order vs ws s.vertices-in-order t.vertices-in-order
      (λ v i. (t.vertices v).1 ((s.vertices v).0 i)) (λ v i. (s.vertices v).1 ((t.vertices v).0 i))

  -- what one list of the vertices makes an edge, the other does
  to : (u v : Place) → Neighbours net vs u v → Neighbours net ws u v
  to u v = subst (λ (l : List Place). Neighbours net vs u v → Neighbours net l u v) vertices-one (λ j. j)

  from : (u v : Place) → Neighbours net ws u v → Neighbours net vs u v
  from u v = subst (λ (l : List Place). Neighbours net l u v → Neighbours net vs u v) vertices-one (λ j. j)

  pub edges-one : es ≡ fs
  edges-one =
      ascending-same edge_before edge_order es fs s.edges-in-order t.edges-in-order
      (λ e i. (t.edges e.0 e.1).1 (to e.0 e.1 ((s.edges e.0 e.1).0 i)))
      (λ e i. (s.edges e.0 e.1).1 (from e.0 e.1 ((t.edges e.0 e.1).0 i)))
