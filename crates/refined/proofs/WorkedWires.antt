-- Wires of worked edges, as the numbers that are given, by computing the definitions.
-- Assumes nothing.
use mathlib.Core.Path.{◌≡◌, refl}
use mathlib.Core.List.{List, [], ◌∷◌}
use Prim.Native.Nat.{ℕ}
use lib.IntN.{ℤ, pos, negsuc}
use Rattle.lent.specs.Entries.{flat}
use Rattle.plane.specs.declared.Place.{Place}
use Rattle.plane.specs.Place.{place}
use Rattle.plane.specs.Distance.{apart, distance}
use Rattle.graph.specs.Numbers.{edge_numbers}
use Rattle.refined.specs.Wires.{drawn, wires_of_edge, wires}

-- to unfold this is to unfold all that it rests on
unfoldable pub given : List (Place × Place) → List ℤ
unfolding apart distance flat drawn wires_of_edge wires
given es = flat edge_numbers (wires es)

abbrev at : ℕ → ℕ → Place
at x y = place (pos x) (pos y)

pub record Table : Type 0 where
  -- the third net to try: a wire an edge
  pub third : given ((at 0 0, at 2 0) ∷ (at 2 0, at 2 3) ∷ (at 2 0, at 4 0) ∷ [])
      ≡ pos 0 ∷ pos 0 ∷ pos 2 ∷ pos 0 ∷ pos 2 ∷ pos 0 ∷ pos 2 ∷ pos 3 ∷ pos 2 ∷ pos 0 ∷ pos 4 ∷ pos 0 ∷ []
  -- an edge with two wires, the horizontal one first
  pub bent : given ((at 1 2, at 4 7) ∷ [])
      ≡ pos 1 ∷ pos 2 ∷ pos 4 ∷ pos 2 ∷ pos 4 ∷ pos 2 ∷ pos 4 ∷ pos 7 ∷ []
  -- a vertical wire downwards begins above, across zero too
  pub down : given ((place (negsuc 2) (pos 1), place (pos 0) (negsuc 4)) ∷ [])
      ≡ negsuc 2 ∷ pos 1 ∷ pos 0 ∷ pos 1 ∷ pos 0 ∷ pos 1 ∷ pos 0 ∷ negsuc 4 ∷ []
  -- no edge, no wire
  pub none : given [] ≡ []

pub table : Table
unfolding given
table = record { third = refl; bent = refl; down = refl; none = refl }
