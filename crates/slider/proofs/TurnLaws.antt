-- A round's code: what its calls ask for, the best move found on the tables that were made, and the loop over rounds.
-- Assumes nothing.
use mathlib.Core.Path.{◌≡◌, refl, sym, ap, ◌∙◌, subst}
use mathlib.Core.Bool.{false}
use mathlib.Core.List.{List}
use Prim.Native.Nat.{ℕ, suc, ◌+◌, ◌-◌, ◌*◌, ◌≤◌, ◌<◌}
use native.Mathlib.Omega.{arith}
use lib.IntN.{ℤ}
use lib.ListN.{length, replicate, length-replicate}
use Rattle.lists.specs.Member.{◌∈◌}
use Rattle.plane.specs.declared.Place.{Place}
use Rattle.plane.specs.declared.Weights.{Weights}
use Rattle.plane.specs.Flat.{place_at}
use Rattle.net.specs.Bounds.{pin_bound}
use Rattle.net.specs.Net.{Net, net_with}
use Rattle.net.specs.Pins.{pin_count, pin_places, pin_at}
use Rattle.net.specs.Allowed.{PlaceInRange}
use Rattle.net.proofs.PinLaws.{length-pins}
use Rattle.graph.specs.Numbers.{edge_numbers, edge_from}
use Rattle.graph.proofs.WidthLaws.{edge-width}
use Rattle.lent.proofs.EntryTable.{length-entries}
use Rattle.tree.specs.Table.{tree}
use Rattle.slide.specs.declared.Side.TheVariants.{Above, Right}
use Rattle.slide.specs.Bend.{Edge}
use Rattle.slide.specs.Slide.{tree_points, rounds}
use Rattle.slide.specs.Promise.{State}
use Rattle.straight.specs.Table.{straight_bound, run, points_in, edges_in}
use Rattle.straight.proofs.RunLaws.{in-run}
use Rattle.settled.specs.Settled.{edges_of, points_of, Settled}
use Rattle.settled.proofs.SettledLaws.{zeros}
use Rattle.bars.specs.declared.Best.{Best}
use Rattle.reach.specs.declared.Size.{Size}
use Rattle.labels.specs.Labelling.{labelled}
use Rattle.moves.specs.Moving.{seats_of}
use Rattle.bars.specs.Offers.{Fresh, searched}
use Rattle.bars.proofs.ChoiceTables.{Tables, choice-agrees, choice-none, choice-tied}
use Rattle.slider.specs.Round.{saves}
use Rattle.slider.proofs.SettledPoints.{settled-points}
use Rattle.slider.proofs.RoundLaws.{rounds-still, round-first, state-in-order, few-points, point-in-range, place-fits, macro-fits}
use Rattle.slider.proofs.RoundLaws.{pins-run}
use Rattle.slider.proofs.FoundLaws.{Found}

pub edges-count : (list : List ℤ) (e : ℕ) → length (edges_of list e) ≡ e
edges-count list e = length-entries edge_numbers edge_from 4 edge-width list 0 e

-- tables for labels as they are made
pub fresh : Fresh (replicate straight_bound 0)
fresh = record {
  numbers = record { number = λ i. let z = zeros straight_bound i in omega (arith, z) };
  room = length-replicate {A = ℕ} straight_bound 0;
}

-- A round

module _ (w : Weights) (pins macros list : List ℤ) (e : ℕ) (s : State (net_with w pins macros) (edges_of list e)) where
  abbrev net : Net
  net = net_with w pins macros

  abbrev T : List Edge
  T = edges_of list e

  pub few-edges : suc e < straight_bound
  few-edges = omega (arith, s.few, edges-count list e)

  pub few-pins : (0 < pin_count pins) × (pin_count pins ≤ pin_bound)
  few-pins =
      (omega (arith, s.allowed.some-pin, length-pins pins), omega (arith, s.allowed.few-pins, length-pins pins))

  pub settle-asks : length list ≡ straight_bound * 4 →
      ((e ≤ straight_bound) × ((e * 4 ≤ length list) × (0 < pin_count pins)))
      × ((pin_count pins ≤ straight_bound) × (length (points_of (pin_places pins) T) < straight_bound))
  settle-asks long = (
    (omega (arith, few-edges), (omega (arith, few-edges, long), few-pins.0)),
    (omega (arith, few-pins), few-points s),
  )

  -- the tables of these edges
  module _ (pts : List ℤ) (keys : List ℕ) (n k : ℕ) (t : Settled (pin_places pins) T (tree pts n keys k)) where
    pub listed : edges_in pts keys k ≡ T
    listed = t.sorted ∙ state-in-order s

    pub ranged : (i : ℕ) → i < n → PlaceInRange (place_at pts i)
    ranged i h =
        point-in-range s (place_at pts i)
        (subst (λ (l : List Place). place_at pts i ∈ l) t.placed (in-run (place_at pts) n 0 i (omega arith) (omega (arith, h))))

    points-again : tree_points net (edges_in pts keys k) ≡ points_in pts n
    unfolding tree_points
    points-again = sym (settled-points (pin_places pins) T (tree pts n keys k) t)

    -- with m pins
    module _ (m : ℕ) (counted : m ≡ pin_count pins) where
      abbrev size : Size
      size = record { points = n; edges = k; pins = m; weights = w }

      tables : Tables net pts keys size pins macros
      tables = record {
        held = t.held;
        points = points-again;
        fits = λ i h. place-fits _ (ranged i h);
        pins-are = pins-run pins ∙ ap (run (pin_at pins) 0) (sym counted);
        few-pins = omega (arith, few-pins, counted);
        macros-are = refl;
        macro-fits = λ x i. macro-fits x (s.allowed.macros-in-range x i);
        weights-are = refl;
        smaller = λ a b i. s.smaller a b (subst (λ (l : List Edge). (a, b) ∈ l) listed i);
      }

      abbrev zeros_table : List ℕ
      zeros_table = replicate straight_bound 0

      abbrev R : List ℕ
      R = labelled Above pts keys n k zeros_table

      abbrev C : List ℕ
      C = labelled Right pts keys n k zeros_table

      abbrev best : Best
      best = searched pts keys R C size macros (seats_of pts n pins m (replicate pin_bound 0))

      room : n ≤ length zeros_table
      room = omega (arith, t.held.few, length-replicate {A = ℕ} straight_bound 0)

      found-there : Found net pts n R C best (edges_in pts keys k)
      found-there = record {
        agrees = λ x L q. choice-agrees tables zeros_table zeros_table room room x L q;
        none = λ q. choice-none tables zeros_table zeros_table room room q;
        on = λ h i l. (choice-tied tables zeros_table zeros_table room room h).on i l;
      }

      pub found : (rows columns : List ℕ) (r : Best) → rows ≡ R → columns ≡ C → r ≡ best → Found net pts n rows columns r T
      found rows columns r p q x =
          subst (λ (U : List Edge). Found net pts n rows columns r U) listed
          (subst (λ (y : Best). Found net pts n rows columns y (edges_in pts keys k)) (sym x)
          (subst (λ (a : List ℕ). Found net pts n rows a best (edges_in pts keys k)) (sym q)
          (subst (λ (a : List ℕ). Found net pts n a C best (edges_in pts keys k)) (sym p) found-there)))

-- The loop

module _ (net : Net) (n i : ℕ) (T₀ T : List Edge) (goal : rounds net (n - i) T ≡ rounds net n T₀) where
  pub turn-next : i < n → rounds net (n - (i + 1)) (rounds net 1 T) ≡ rounds net n T₀
  turn-next h =
      let e : n - i ≡ suc (n - (i + 1)) = omega arith in
      sym (round-first net (n - (i + 1)) T) ∙ ap (λ (m : ℕ). rounds net m T) (sym e) ∙ goal

  pub turn_last : saves net T ≡ false → rounds net 1 T ≡ rounds net n T₀
  turn_last h = rounds-still net 1 T h ∙ sym (rounds-still net (n - i) T h) ∙ goal

  pub turn_end : n ≤ i → T ≡ rounds net n T₀
  unfolding rounds
  turn_end h = let e : n - i ≡ 0 = omega arith in sym (ap (λ (m : ℕ). rounds net m T) e) ∙ goal
