-- Moves of bars, the rounds, and the slid tree: rules M1, M7 and M11 to M14.
use Rattle.std.specs.Prelude.{Bool, true, false, not, ◌&&◌, List, [], ◌∷◌, ◌++◌, map, ℕ, zero, suc, eqb, ltb, length}
use Rattle.lists.specs.Any.{any}
use Rattle.lists.specs.Those.{those}
use Rattle.lists.specs.Sorted.{sorted, first_then}
use Rattle.plane.specs.declared.Place.{Place}
use Rattle.plane.specs.Place.{before, same_place}
use Rattle.net.specs.Net.{Net}
use Rattle.slide.specs.declared.Side.{Side}
use Rattle.slide.specs.declared.Move.{Move}
use Rattle.slide.specs.declared.Side.TheVariants.{Above, Below, Right, Left}
use Rattle.slide.specs.Side.{horizontal, moved}
use Rattle.slide.specs.Bend.{Edge, Bent, bent, given_back, bends}
use Rattle.slide.specs.Bar.{level, on_bar}
use Rattle.slide.specs.Sweep.{first_place, reach, surplus, saving_of}

-- R2: the tree points, the pins and the ends of the edges, in order, each once
unfoldable pub ends : List Edge → List Place
ends [] = []
ends (e ∷ T) = e.0 ∷ (e.1 ∷ ends T)

unfoldable pub tree_points : Net → List Edge → List Place
tree_points net T = sorted before (net.pins ++ ends T)

-- M13: a point of the bar moves, any other stays
unfoldable pub shift : Side → (Place → Bool) → ℕ → Place → Place
shift s on d p = elim (on p) [ true ↦ moved s d p | false ↦ p ]

unfoldable pub shift_edge : Side → (Place → Bool) → ℕ → Edge → Edge
shift_edge s on d e = (shift s on d e.0, shift s on d e.1)

unfoldable pub proper : Edge → Bool
proper e = not (same_place e.0 e.1)

-- N16: edges in order
abbrev pub in_their_order : List Edge → List Edge
in_their_order T = sorted (first_then before before) T

-- M13: the edges after a move; where a far end is reached, the edge between the two points that become one goes
unfoldable pub slide : Side → (Place → Bool) → ℕ → List Edge → List Edge
slide s on d T = those proper (map (shift_edge s on d) T)

module _ (net : Net) where
  -- M7: the bar of the edge e has no pin among its points, and more edges hang on the side than on the other
  unfoldable pub moves : List Edge → Side → Edge → Bool
  moves T s e = let on = on_bar s T e.0 in level s e && (not (any on net.pins) && ltb 0 (surplus s on T))

  unfoldable pub distance_of : List Edge → Side → Edge → ℕ
  distance_of T s e = elim (moves T s e) [ true ↦ reach s (on_bar s T e.0) net (tree_points net T) T e.0 | false ↦ 0 ]

  unfoldable pub move_of : List Edge → Side → Edge → Move
  move_of T s e =
      let a = e.0 in
      let on = on_bar s T a in
      let X = tree_points net T in
      let d = distance_of T s e in
      record { saving = saving_of s on net T d; first = first_place s on X T a; side = s; distance = d }

  -- every bar is met, from each of its edges
  unfoldable pub moves_of : List Edge → List Edge → List Move
  moves_of T [] = []
  moves_of T (e ∷ L) = move_of T Above e ∷ move_of T Below e ∷ move_of T Right e ∷ move_of T Left e ∷ moves_of T L

-- M12: the greatest saving, then the smallest first place, then a horizontal bar
abbrev pub greater : ℕ → ℕ → Bool
greater a b = ltb b a

abbrev pub flatter : Bool → Bool → Bool
flatter a b = a && not b

abbrev pub rank : Move → ℕ × (Place × Bool)
rank m = (m.saving, (m.first, horizontal m.side))

unfoldable pub better : Move → Move → Bool
better m n = first_then greater (first_then before flatter) (rank m) (rank n)

unfoldable pub best_of : Move → List Move → Move
best_of m [] = m
best_of m (n ∷ l) = elim (better n m) [ true ↦ best_of n l | false ↦ best_of m l ]

-- M13: a move made
unfoldable pub make : Move → List Edge → List Edge
make m T = in_their_order (slide m.side (on_bar m.side T m.first) m.distance T)

module _ (net : Net) where
  -- M12: the best move of the tree T, which is e and L
  unfoldable pub choice : List Edge → Edge → List Edge → Move
  choice T e L = best_of (move_of net T Above e) (moves_of net T (e ∷ L))

  -- M14: at most n rounds; the first without a saving is the last
  unfoldable pub rounds : ℕ → List Edge → List Edge
  rounds zero T = T
  rounds (suc n) [] = []
  rounds (suc n) (e ∷ L) =
      let m = choice (e ∷ L) e L in
      elim (eqb m.saving 0) [ true ↦ e ∷ L | false ↦ rounds n (make m (e ∷ L)) ]

  -- M14: as many rounds as there are points after bending;  M4: a tree given back is as it was
  unfoldable pub after_bends : List Edge → Bent → List Edge
  after_bends T (bent X U) = rounds (length X) (in_their_order U)
  after_bends T given_back = T

  -- M1: the slid tree of a refined tree's edges
  unfoldable pub slid : List Edge → List Edge
  slid T = after_bends T (bends (tree_points net T) T)
