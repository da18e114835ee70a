-- Vertices: they are exactly the pins and the corners of macros, ascending, and at most m + 4k. What a sorted list holds, and what a list
-- made of four places a macro holds.
-- Assumes nothing.
use mathlib.Core.Path.{refl}
use mathlib.Core.Logic.{◌⊎◌, inl, inr}
use mathlib.Core.List.Memᴰ
use mathlib.Core.List.{List, ◌++◌}
use Prim.Native.Nat.{◌+◌, ◌*◌, ◌≤◌}
use native.Mathlib.Omega.{arith}
use lib.ListN.{length, length-append}
use Rattle.lists.specs.Member.{◌∈◌, here, there}
use Rattle.lists.specs.Sorted.{Ascending}
use Rattle.lists.proofs.TestLaws.{either}
use Rattle.lists.proofs.EachLaws.{Piece, of-each, in-each, length-each}
use Rattle.lists.proofs.SortedLaws.{of-sorted, in-sorted, length-sorted, sorted-ascending}
use Rattle.plane.specs.declared.Place.{Place}
use Rattle.plane.specs.declared.Macro.{Macro}
use Rattle.plane.specs.Place.{place, before}
use Rattle.plane.proofs.PlaceOrder.{place-order}
use Rattle.net.specs.Net.{Net}
use Rattle.graph.specs.Vertices.{corners_of, corners, vertices}
use Rattle.graph.specs.Spanning.{vertices_of}
use Rattle.graph.proofs.GraphSteps.{corners-none, corners-more, corners-few}

-- The corners of a macro

module _ (m : Macro) where
  pub lower-left : place m.left m.bottom ∈ corners_of m
  unfolding corners_of
  lower-left = here refl

  pub upper-left : place m.left m.top ∈ corners_of m
  unfolding corners_of
  upper-left = there (here refl)

  pub lower-right : place m.right m.bottom ∈ corners_of m
  unfolding corners_of
  lower-right = there (there (here refl))

  pub upper-right : place m.right m.top ∈ corners_of m
  unfolding corners_of
  upper-right = there (there (there (here refl)))

  -- and no others: for whatever holds at the four corners
  pub at-corner : (P : Place → Type 0)
      → P (place m.left m.bottom) → P (place m.left m.top) → P (place m.right m.bottom) → P (place m.right m.top)
      → (c : Place) → c ∈ corners_of m → P c
  unfolding corners_of
  at-corner P a b d e c (here k) = rw k a
  at-corner P a b d e c (there (here k)) = rw k b
  at-corner P a b d e c (there (there (here k))) = rw k d
  at-corner P a b d e c (there (there (there (here k)))) = rw k e
  at-corner P a b d e c (there (there (there (there i)))) = elim i [ ]

-- The corners of all macros

pub of-corners : (ms : List Macro) {c : Place} → c ∈ corners ms → Piece corners_of ms c
of-corners = of-each corners_of corners corners-none corners-more

pub in-corners : (ms : List Macro) {m : Macro} {c : Place} → m ∈ ms → c ∈ corners_of m → c ∈ corners ms
in-corners = in-each corners_of corners corners-none corners-more

-- Vertices

module _ (net : Net) where
  -- G1: pins and corners of macros, and nothing else
  pub pin-vertex : {p : Place} → p ∈ net.pins → p ∈ vertices_of net
  unfolding vertices
  pin-vertex i = in-sorted before place-order (net.pins ++ corners net.macros) _ (Memᴰ.append_left (corners net.macros) i)

  pub corner-vertex : {m : Macro} {c : Place} → m ∈ net.macros → c ∈ corners_of m → c ∈ vertices_of net
  unfolding vertices
  corner-vertex i j =
      in-sorted before place-order (net.pins ++ corners net.macros) _ (Memᴰ.append_right net.pins (in-corners net.macros i j))

  pub of-vertices : {v : Place} → v ∈ vertices_of net → (v ∈ net.pins) ⊎ Piece corners_of net.macros v
  unfolding vertices
  of-vertices i =
      either inl (λ k. inr (of-corners net.macros k))
      (Memᴰ.append_cases net.pins (of-sorted before (net.pins ++ corners net.macros) _ i))

  -- G1: equal places are one vertex, and they are in order
  pub vertices-ascending : Ascending before (vertices_of net)
  unfolding vertices
  vertices-ascending = sorted-ascending before place-order (net.pins ++ corners net.macros)

  -- N7: at most n of them
  pub length-vertices : length (vertices_of net) ≤ length net.pins + 4 * length net.macros
  unfolding vertices
  length-vertices =
      omega (
        arith,
        length-sorted before (net.pins ++ corners net.macros),
        length-append net.pins (corners net.macros),
        length-each corners_of corners corners-none corners-more 4 corners-few net.macros,
      )
