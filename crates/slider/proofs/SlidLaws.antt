-- Sliding from a refined tree's edges: what the call that bends asks for, what comes of it, and the edges in the end.
-- Assumes nothing.
use mathlib.Core.Path.{◌≡◌, refl, sym, ap, ap₂, ◌∙◌, subst}
use mathlib.Core.List.{List}
use Prim.Native.Nat.{ℕ, ◌+◌, ◌*◌, ◌≤◌, ◌<◌}
use native.Mathlib.Omega.{arith}
use lib.IntN.{ℤ}
use lib.ListN.{length}
use Rattle.lent.specs.Over.{over}
use Rattle.lent.specs.Entries.{flat}
use Rattle.lent.proofs.EntryTable.{entries_over}
use Rattle.plane.specs.declared.Place.{Place}
use Rattle.plane.specs.declared.Weights.{Weights}
use Rattle.net.specs.Net.{Net, net_with}
use Rattle.net.specs.Pins.{pin_count, pin_places}
use Rattle.net.proofs.PinLaws.{length-pins}
use Rattle.graph.specs.Numbers.{edge_numbers, edge_from}
use Rattle.graph.proofs.WidthLaws.{edge-width}
use Rattle.laid.specs.Edges.{laid_bound}
use Rattle.slide.specs.Bend.{Edge, Bent, bent, given_back, bends}
use Rattle.slide.specs.Slide.{tree_points, in_their_order, rounds, slid}
use Rattle.slide.specs.Promise.{Slidable, State}
use Rattle.slide.proofs.SlidSound.{bent-does}
use Rattle.slide.proofs.StateLaws.{first-pin, slidable-sound, bent-state, slid-bent, slid-back}
use Rattle.straight.specs.Table.{straight_bound}
use Rattle.std.specs.Prelude.{Option, Some, None}
use Rattle.tree.specs.declared.Size.{Size}
use Rattle.settled.specs.Settled.{edges_of, points_of}
use Rattle.bends.specs.Bending.{BentBy}
use Rattle.slider.proofs.TurnLaws.{edges-count}

-- What bending came to

bent-back : (b : Bent) (r : Option Size) (out : List ℤ) → BentBy b r out → r ≡ None → b ≡ given_back
bent-back (bent X U) (Some r) out h e = cc
bent-back (bent X U) None out h e = absurd h
bent-back given_back r out h e = refl

pub record BentTo (b : Bent) (r : Size) (out : List ℤ) : Type 0 where
  pub places : List Place
  pub lines : List Edge
  pub is : b ≡ bent places lines
  pub counted : r.points ≡ length places
  pub many : r.edges ≡ length lines
  pub listed : edges_of out r.edges ≡ lines

pub bent-to : (b : Bent) (r : Size) (out : List ℤ) → BentBy b (Some r) out → BentTo b r out
bent-to (bent X U) r out h = record { places = X; lines = U; is = refl; counted = h.0; many = h.1.0; listed = h.1.1 }
bent-to given_back r out h = cc

-- The edges given

pub edges-given : (row before after : List ℤ) (n : ℕ) → after ≡ over (flat edge_numbers (edges_of row n)) before →
    edges_of after n ≡ edges_of row n
edges-given row before after n h =
    ap (λ (t : List ℤ). edges_of t n) h
    ∙ entries_over edge_numbers edge_from 4 edge-width (edges_of row n) before n (edges-count row n)

module _ (w : Weights) (pins macros edges : List ℤ) (e : ℕ) (s : Slidable (net_with w pins macros) (edges_of edges e)) where
  abbrev net : Net
  net = net_with w pins macros

  abbrev T : List Edge
  T = edges_of edges e

  points-few : length (points_of (pin_places pins) T) + e < straight_bound
  unfolding tree_points
  points-few = omega (arith, (slidable-sound s).tree.size, s.few, edges-count edges e)

  pub bend-asks : length edges ≡ laid_bound * 4 →
      ((e * 4 ≤ length edges) × ((e * 8 ≤ straight_bound * 4) × (pin_count pins ≤ straight_bound)))
      × (length (points_of (pin_places pins) T) + e < straight_bound)
  bend-asks long = (
    (
      omega (arith, long, s.few, edges-count edges e),
      (omega (arith, s.few, edges-count edges e), omega (arith, s.allowed.few-pins, length-pins pins)),
    ),
    points-few,
  )

  pub slid-given-back : (r : Option Size) (out : List ℤ) → BentBy (bends (points_of (pin_places pins) T) T) r out → r ≡ None →
      T ≡ slid net T
  unfolding tree_points
  slid-given-back r out h e = sym (slid-back net T (bent-back _ r out h e))

  module _ (r : Size) (out : List ℤ) (b : BentTo (bends (points_of (pin_places pins) T) T) r out) where
    bends-so : bends (tree_points net T) T ≡ bent b.places b.lines
    unfolding tree_points
    bends-so = b.is

    pub bent-few : r.edges ≤ e + e
    bent-few =
        let p = first-pin (pin_places pins) s.allowed.some-pin in
        omega (
          arith,
          (bent-does net s.allowed.upright p.0 p.1 T (slidable-sound s) b.places b.lines bends-so).few,
          b.many,
          edges-count edges e,
        )

    pub few-room : r.edges * 4 ≤ straight_bound * 4
    few-room = omega (arith, bent-few, s.few, edges-count edges e)

    -- the first n of a list are the bent edges in order
    module _ (row : List ℤ) (n : ℕ) (q : edges_of row n ≡ in_their_order (edges_of out r.edges)) where
      in_row : edges_of row n ≡ in_their_order b.lines
      in_row = q ∙ ap in_their_order b.listed

      pub start-state : State net (edges_of row n)
      start-state = subst (λ (U : List Edge). State net U) (sym in_row) (bent-state s b.places b.lines bends-so)

      pub slid-rounds : rounds net r.points (edges_of row n) ≡ slid net T
      slid-rounds = ap₂ (rounds net) b.counted in_row ∙ sym (slid-bent net T b.places b.lines bends-so)
