-- The graphs of the worked nets E1 to E6 and E8, by computing the definitions.
-- Assumes nothing.
use mathlib.Core.Path.{◌≡◌, refl}
use mathlib.Core.List.{List, [], ◌∷◌}
use lib.IntN.{ℤ, pos, negsuc}
use Rattle.lists.specs.Any.{any}
use Rattle.lists.specs.Sorted.{put, sorted, first_then}
use Rattle.signed.specs.Order.{z_min, z_max}
use Rattle.plane.specs.declared.Place.{Place}
use Rattle.plane.specs.Place.{place, before}
use Rattle.plane.specs.Distance.{apart}
use Rattle.plane.specs.Cost.{cost, plain}
use Rattle.plane.specs.Macro.{span_meets, meets, clear}
use Rattle.plane.specs.Flat.{macros_of}
use Rattle.net.specs.Pins.{pin_places}
use Rattle.net.specs.Net.{net_with}
use Rattle.net.specs.WorkedNets.{Lists, one_pin, around_one, three_pins, shared_side, on_sides, on_boundary}
use Rattle.graph.specs.Vertices.{corners_of, corners, vertices}
use Rattle.picks.specs.Pick.{within, nearer, better, pick_from, pick}
use Rattle.graph.specs.Edges.{edge_of, before_edge, edge_of_pick, picks_of, all_picks, edges}
use Rattle.graph.specs.Spanning.{spanning}

-- the edges of a net with plain weights; to unfold this is to unfold all that it rests on
unfoldable pub graph_of : Lists → List (Place × Place)
unfolding any put sorted first_then z_min z_max before apart cost span_meets meets clear pin_places macros_of corners_of corners vertices
    within nearer better pick_from pick edge_of before_edge edge_of_pick picks_of all_picks edges
graph_of net = spanning (net_with plain net.pins net.macros)

-- an edge by its four numbers
abbrev edge : ℤ → ℤ → ℤ → ℤ → Place × Place
edge a b c d = (place a b, place c d)

pub record Table : Type 0 where
  -- E1: one pin, no edge
  pub one-pin : graph_of one_pin ≡ []
  -- E3: eight edges
  pub around-one :
      graph_of around_one
      ≡ edge (pos 0) (pos 0) (pos 4) (negsuc 1)
      ∷ edge (pos 0) (pos 0) (pos 4) (pos 3)
      ∷ edge (pos 4) (negsuc 1) (pos 4) (pos 3)
      ∷ edge (pos 4) (negsuc 1) (pos 6) (negsuc 1)
      ∷ edge (pos 4) (pos 3) (pos 6) (pos 3)
      ∷ edge (pos 6) (negsuc 1) (pos 6) (pos 3)
      ∷ edge (pos 6) (negsuc 1) (pos 10) (pos 0)
      ∷ edge (pos 6) (pos 3) (pos 10) (pos 0)
      ∷ []
  pub three-pins :
      graph_of three_pins
      ≡ edge (pos 0) (pos 0) (pos 2) (pos 3)
      ∷ edge (pos 0) (pos 0) (pos 4) (pos 0)
      ∷ edge (pos 2) (pos 3) (pos 4) (pos 0)
      ∷ []
  pub shared-side :
      graph_of shared_side
      ≡ edge (pos 0) (pos 0) (pos 0) (pos 2)
      ∷ edge (pos 0) (pos 0) (pos 2) (negsuc 0)
      ∷ edge (pos 0) (pos 0) (pos 2) (pos 0)
      ∷ edge (pos 0) (pos 2) (pos 2) (pos 2)
      ∷ edge (pos 0) (pos 2) (pos 2) (pos 3)
      ∷ edge (pos 2) (negsuc 0) (pos 2) (pos 0)
      ∷ edge (pos 2) (negsuc 0) (pos 4) (pos 0)
      ∷ edge (pos 2) (pos 0) (pos 2) (pos 2)
      ∷ edge (pos 2) (pos 0) (pos 4) (pos 0)
      ∷ edge (pos 2) (pos 2) (pos 2) (pos 3)
      ∷ edge (pos 2) (pos 2) (pos 4) (pos 2)
      ∷ edge (pos 2) (pos 3) (pos 4) (pos 2)
      ∷ edge (pos 4) (pos 0) (pos 4) (pos 2)
      ∷ []
  pub on-sides :
      graph_of on_sides
      ≡ edge (pos 0) (pos 0) (pos 0) (pos 1)
      ∷ edge (pos 0) (pos 0) (pos 1) (pos 0)
      ∷ edge (pos 0) (pos 1) (pos 0) (pos 2)
      ∷ edge (pos 0) (pos 2) (pos 1) (pos 2)
      ∷ edge (pos 1) (pos 0) (pos 1) (pos 1)
      ∷ edge (pos 1) (pos 1) (pos 1) (pos 2)
      ∷ []
  pub on-boundary :
      graph_of on_boundary
      ≡ edge (pos 4) (negsuc 1) (pos 4) (pos 0)
      ∷ edge (pos 4) (negsuc 1) (pos 6) (negsuc 1)
      ∷ edge (pos 4) (pos 0) (pos 4) (pos 3)
      ∷ edge (pos 4) (pos 3) (pos 6) (pos 3)
      ∷ edge (pos 6) (negsuc 1) (pos 6) (pos 3)
      ∷ []

pub worked-graphs : Table
unfolding graph_of
worked-graphs = record {
  one-pin = refl;
  around-one = refl;
  three-pins = refl;
  shared-side = refl;
  on-sides = refl;
  on-boundary = refl;
}
