-- Slid trees of worked nets, by computing the definitions from the refined trees.
-- Assumes nothing.
use mathlib.Core.Path.{◌≡◌, refl}
use mathlib.Core.List.{List, [], ◌∷◌}
use Prim.Native.Nat.{ℕ}
use lib.IntN.{ℤ, pos, negsuc}
use Rattle.lists.specs.Any.{any}
use Rattle.lists.specs.Those.{those}
use Rattle.lists.specs.Total.{total}
use Rattle.lists.specs.Sorted.{put, sorted, first_then}
use Rattle.signed.specs.Order.{z_min, z_max}
use Rattle.plane.specs.declared.Place.{Place}
use Rattle.plane.specs.declared.Macro.{Macro}
use Rattle.plane.specs.Place.{place, before, same_place}
use Rattle.plane.specs.Distance.{apart}
use Rattle.plane.specs.Cost.{cost}
use Rattle.plane.specs.Macro.{macro, span_meets, meets, clear}
use Rattle.joined.specs.Cost.{lengths}
use Rattle.joined.specs.Labels.{equal, renamed, merge, labels}
use Rattle.net.specs.Net.{cost_in}
use Rattle.net.specs.Net.{Net, cost_in}
use Rattle.slide.specs.declared.Side.{Side}
use Rattle.slide.specs.declared.Side.TheVariants.{Above, Below, Right, Left}
use Rattle.slide.specs.Side.{horizontal, along, across, moved, weight}
use Rattle.graph.specs.Edges.{edge_of}
use Rattle.slide.specs.Bend.{Edge, straight, x_first, y_first, taken, Bent, bent, given_back, kept, through, bends}
use Rattle.slide.specs.Bar.{same, level, on_bar, of_bar, hangs, ahead, behind, far, long, least, shortest, far_ends, first_of, last_of}
use Rattle.slide.specs.Sweep.{low_corner, high_corner, boxes_meet, only_in, first_place, last_place, swept, point_bars, edge_bars, allowed}
use Rattle.slide.specs.Sweep.{greatest, reach, surplus, saving_of}
use Rattle.slide.specs.Slide.{ends, tree_points, shift, shift_edge, proper, slide, moves, distance_of, move_of, moves_of, better, best_of}
use Rattle.slide.specs.Slide.{choice}
use Rattle.slide.specs.Slide.{make, rounds, after_bends, slid}

-- to unfold this is to unfold all that it rests on
unfoldable pub slid_of : Net → List Edge → List Edge × ℕ
unfolding
    any those total put sorted first_then z_min z_max before same_place apart span_meets meets clear lengths equal renamed merge labels
    horizontal along across moved weight cost edge_of straight x_first y_first taken kept through bends
    same level on_bar of_bar hangs ahead behind far long least shortest far_ends first_of last_of
    low_corner high_corner boxes_meet only_in first_place last_place swept point_bars edge_bars allowed greatest reach surplus saving_of
    ends tree_points shift shift_edge proper slide moves distance_of move_of moves_of better best_of choice make rounds after_bends slid
slid_of net T = let U = slid net T in (U, lengths (cost_in net) U)

abbrev net : ℕ → ℕ → List Place → List Macro → Net
net a b pins macros = record { pins = pins; macros = macros; weights = record { across = a; along = b } }

abbrev at : ℕ → ℕ → Place
at x y = place (pos x) (pos y)

abbrev block : ℕ → ℕ → ℕ → ℕ → Macro
block l b r t = macro (pos l) (pos b) (pos r) (pos t)

pub record Table : Type 0 where
  -- one bar moves to its far end: refined 7, slid 6
  pub one-move :
      slid_of (net 1 1 (at 2 3 ∷ at 3 0 ∷ at 0 1 ∷ []) (block 0 2 1 4 ∷ []))
      ((at 0 1, at 1 1) ∷ (at 1 1, at 1 2) ∷ (at 1 1, at 3 0) ∷ (at 1 2, at 2 3) ∷ [])
      ≡ ((at 0 1, at 2 1) ∷ (at 2 1, at 2 2) ∷ (at 2 1, at 3 1) ∷ (at 2 2, at 2 3) ∷ (at 3 0, at 3 1) ∷ [], 6)
  -- two moves: refined 16, slid 14
  pub two-moves :
      slid_of (net 1 1 (at 0 5 ∷ at 7 7 ∷ at 5 0 ∷ []) (block 3 7 4 8 ∷ []))
      ((at 0 5, at 3 5) ∷ (at 3 5, at 3 7) ∷ (at 3 5, at 5 0) ∷ (at 3 7, at 4 7) ∷ (at 4 7, at 7 7) ∷ [])
      ≡ ((at 0 5, at 5 5) ∷ (at 5 0, at 5 5) ∷ (at 5 5, at 5 7) ∷ (at 5 7, at 7 7) ∷ [], 14)
  -- a macro stops the bar before its far end: refined 37, slid 33
  pub stopped-by-macro :
      slid_of (net 1 2 (at 10 0 ∷ at 10 12 ∷ at 3 3 ∷ []) (block 4 5 5 14 ∷ block 3 7 4 8 ∷ block 8 3 11 4 ∷ []))
      ((at 3 3, at 4 3) ∷ (at 4 3, at 4 5) ∷ (at 4 3, at 10 0) ∷ (at 4 5, at 5 5) ∷ (at 5 5, at 10 12) ∷ [])
      ≡ (
        (at 3 3, at 8 3) ∷ (at 8 3, at 8 5) ∷ (at 8 3, at 10 3) ∷ (at 8 5, at 10 5) ∷ (at 10 0, at 10 3) ∷ (at 10 5, at 10 12) ∷ [],
        33,
      )
  -- M2: y first where a tree point stands at the other place; then no bar is without a pin
  pub y-first :
      slid_of (net 1 1 (at 0 0 ∷ at 1 0 ∷ at 1 1 ∷ []) []) ((at 0 0, at 1 0) ∷ (at 0 0, at 1 1) ∷ [])
      ≡ ((at 0 0, at 0 1) ∷ (at 0 0, at 1 0) ∷ (at 0 1, at 1 1) ∷ [], 3)
  -- M4: both places taken, given back as it was
  pub both-taken :
      slid_of (net 1 1 (at 0 0 ∷ at 0 1 ∷ at 1 0 ∷ at 1 1 ∷ at 2 2 ∷ []) [])
      ((at 0 0, at 0 1) ∷ (at 0 0, at 1 0) ∷ (at 0 0, at 1 1) ∷ (at 1 1, at 2 2) ∷ [])
      ≡ ((at 0 0, at 0 1) ∷ (at 0 0, at 1 0) ∷ (at 0 0, at 1 1) ∷ (at 1 1, at 2 2) ∷ [], 6)
  -- an edge ahead, which no tree point joins to the bar, stops it one short; an upright edge stops the second bar
  pub stopped-by-edge :
      slid_of (net 1 1 (at 0 5 ∷ at 2 3 ∷ at 4 5 ∷ []) [])
      ((at 0 0, at 0 5) ∷ (at 0 0, at 4 0) ∷ (at 2 3, at 6 3) ∷ (at 4 0, at 4 5) ∷ (at 4 5, at 6 5) ∷ (at 6 3, at 6 5) ∷ [])
      ≡ ((at 0 2, at 0 5) ∷ (at 0 2, at 4 2) ∷ (at 2 3, at 5 3) ∷ (at 4 2, at 4 5) ∷ (at 4 5, at 5 5) ∷ (at 5 3, at 5 5) ∷ [], 16)
  -- an edge that crosses the bar with no tree point there keeps it where it is
  pub crossed :
      slid_of (net 1 1 (at 0 4 ∷ at 2 2 ∷ at 4 4 ∷ []) [])
      (
      (at 0 1, at 0 4)
      ∷ (at 0 1, at 4 1)
      ∷ (at 2 0, at 2 2)
      ∷ (at 2 0, at 6 0)
      ∷ (at 4 1, at 4 4)
      ∷ (at 4 4, at 6 4)
      ∷ (at 6 0, at 6 4)
      ∷ []
      )
      ≡ (
        (at 0 1, at 0 4)
            ∷ (at 0 1, at 4 1)
            ∷ (at 2 0, at 2 2)
            ∷ (at 2 0, at 5 0)
            ∷ (at 4 1, at 4 4)
            ∷ (at 4 4, at 5 4)
            ∷ (at 5 0, at 5 4)
            ∷ [],
        20,
      )
  -- both bends taken by earlier bends, and y first for an earlier bend: where the two chains of chambers begin
  pub chain-given-back :
      slid_of (net 1 1 (place (negsuc 17) (pos 0) ∷ place (negsuc 19) (pos 1) ∷ place (negsuc 16) (negsuc 0) ∷ place (negsuc 19)
      (negsuc 1) ∷ place (negsuc 16) (pos 1) ∷ place (pos 0) (pos 0) ∷ []) [])
      ((place (negsuc 19) (negsuc 1), place (negsuc 19) (pos 1)) ∷ (place (negsuc 19) (pos 1), place (negsuc 17) (pos 0)) ∷
      (place (negsuc 17) (pos 0), place (negsuc 16) (negsuc 0)) ∷ (place (negsuc 17) (pos 0), place (negsuc 16) (pos 1)) ∷
      (place (negsuc 17) (pos 0), place (pos 0) (pos 0)) ∷ [])
      ≡ (
        (place (negsuc 19) (negsuc 1), place (negsuc 19) (pos 1)) ∷ (place (negsuc 19) (pos 1), place (negsuc 17) (pos 0)) ∷
            (place (negsuc 17) (pos 0), place (negsuc 16) (negsuc 0)) ∷ (place (negsuc 17) (pos 0), place (negsuc 16) (pos 1)) ∷
            (place (negsuc 17) (pos 0), place (pos 0) (pos 0)) ∷ [],
        28,
      )
  pub chain-y-first :
      slid_of (net 1 1 (place (negsuc 16) (pos 1) ∷ place (negsuc 17) (negsuc 0) ∷ place (negsuc 16) (negsuc 1) ∷ place (pos 0) (pos 0) ∷
      []) [])
      ((place (negsuc 17) (negsuc 0), place (negsuc 16) (negsuc 1)) ∷ (place (negsuc 17) (negsuc 0), place (negsuc 16) (pos 1)) ∷
      (place (negsuc 16) (pos 1), place (pos 0) (pos 0)) ∷ [])
      ≡ (
        (place (negsuc 17) (negsuc 0), place (negsuc 17) (pos 1)) ∷ (place (negsuc 17) (negsuc 0), place (negsuc 16) (negsuc 0)) ∷
            (place (negsuc 17) (pos 1), place (negsuc 16) (pos 1)) ∷ (place (negsuc 16) (negsuc 1), place (negsuc 16) (negsuc 0)) ∷
            (place (negsuc 16) (pos 1), place (pos 0) (pos 1)) ∷ (place (pos 0) (pos 0), place (pos 0) (pos 1)) ∷ [],
        23,
      )

pub worked-slides : Table
unfolding slid_of
worked-slides = record {
  one-move = refl;
  two-moves = refl;
  stopped-by-macro = refl;
  y-first = refl;
  both-taken = refl;
  stopped-by-edge = refl;
  crossed = refl;
  chain-given-back = refl;
  chain-y-first = refl;
}
