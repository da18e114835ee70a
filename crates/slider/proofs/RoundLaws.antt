-- Rounds one by one, and what the edges before a round give to the calls of its code: they are in order, few enough and in range.
-- Assumes nothing.
use mathlib.Core.Path.{◌≡◌, refl, sym, ap, ◌∙◌, subst}
use mathlib.Core.Bool.{true, false}
use mathlib.Core.List.Memᴰ
use mathlib.Core.List.{List, [], ◌∷◌, ◌++◌}
use Prim.Native.Nat.{ℕ, zero, suc, ◌+◌, ◌<◌}
use native.Mathlib.Omega.{arith}
use borrow.Author.Tests.{eqb-true, eqb-false, not-false}
use lib.IntN.{ℤ}
use lib.ListN.{length, drop}
use mir.Syntax.{w32}
use mir.Val.{SFits}
use Rattle.lists.specs.Member.{◌∈◌}
use Rattle.lists.specs.Sorted.{first_then}
use Rattle.lists.proofs.TestLaws.{by, either, not-true}
use Rattle.lists.proofs.SortedLaws.{in-sorted, of-sorted, sorted-ascending, ascending-same}
use Rattle.signed.proofs.SideLaws.{to-sfits}
use Rattle.plane.specs.declared.Place.{Place}
use Rattle.plane.specs.declared.Macro.{Macro}
use Rattle.plane.specs.Place.{before}
use Rattle.plane.proofs.Fits.{PlaceFits, MacroFits}
use Rattle.net.specs.Net.{Net}
use Rattle.net.specs.Pins.{pin_count, pin_places, pin_at}
use Rattle.net.specs.Tests.{out_of_range}
use Rattle.net.specs.Allowed.{PlaceInRange, MacroInRange}
use Rattle.net.proofs.PinLaws.{pins-next, pins-end}
use Rattle.net.proofs.RangeBounds.{in-range-near}
use Rattle.slide.specs.declared.Side.{Side}
use Rattle.slide.specs.Side.{horizontal}
use Rattle.slide.specs.Bend.{Edge}
use Rattle.slide.specs.Slide.{ends, tree_points, in_their_order, choice, make, rounds}
use Rattle.slide.specs.Promise.{State}
use Rattle.slide.proofs.PointLaws.{of-ends, edge_order}
use Rattle.slide.proofs.StateLaws.{next-state, state-points, rounds-over, rounds-next}
use Rattle.straight.specs.Table.{straight_bound, run}
use Rattle.labels.specs.Labelling.{labels_for}
use Rattle.settled.specs.Settled.{points_of}
use Rattle.slider.specs.Round.{saves}

-- Labels

module _ (s : Side) (rows columns : List ℕ) where
  pub labels-rows : horizontal s ≡ true → labels_for s rows columns ≡ rows
  unfolding labels_for
  labels-rows e = rw (labels_for, e) refl

  pub labels-columns : horizontal s ≡ false → labels_for s rows columns ≡ columns
  unfolding labels_for
  labels-columns e = rw (labels_for, e) refl

-- Rounds

module _ (net : Net) where
  module _ (e : Edge) (L : List Edge) where
    saves-not : saves net (e ∷ L) ≡ false → (choice net (e ∷ L) e L).saving ≡ 0
    unfolding saves
    saves-not h = eqb-true (choice net (e ∷ L) e L).saving 0 (not-false _ h)

    saves-so : saves net (e ∷ L) ≡ true → (choice net (e ∷ L) e L).saving ≡ 0 → ⊥
    unfolding saves
    saves-so h = eqb-false (choice net (e ∷ L) e L).saving 0 (not-true _ h)

    pub round-made : ((choice net (e ∷ L) e L).saving ≡ 0 → ⊥) → rounds net 1 (e ∷ L) ≡ make (choice net (e ∷ L) e L) (e ∷ L)
    unfolding rounds
    round-made h = rounds-next net 0 e L h

  rounds-none : (n : ℕ) → rounds net n [] ≡ []
  unfolding rounds
  rounds-none zero = refl
  rounds-none (suc n) = refl

  -- where the next saves nothing, all change nothing
  pub rounds-still : (n : ℕ) (T : List Edge) → saves net T ≡ false → rounds net n T ≡ T
  unfolding rounds
  rounds-still n [] h = rounds-none n
  rounds-still zero (e ∷ L) h = refl
  rounds-still (suc n) (e ∷ L) h = rounds-over net n e L (saves-not e L h)

  -- one and then the others
  pub round-first : (n : ℕ) (T : List Edge) → rounds net (suc n) T ≡ rounds net n (rounds net 1 T)
  round-first n [] = rounds-none (suc n) ∙ sym (ap (rounds net n) (rounds-none 1) ∙ rounds-none n)
  round-first n (e ∷ L) =
      by (saves net (e ∷ L))
      (λ h. let k = saves-so e L h in rounds-next net n e L k ∙ sym (ap (rounds net n) (round-made e L k)))
      (λ h. rounds-still (suc n) (e ∷ L) h ∙ sym (ap (rounds net n) (rounds-still 1 (e ∷ L) h) ∙ rounds-still n (e ∷ L) h))

  pub round-state : (T : List Edge) → State net T → State net (rounds net 1 T)
  round-state [] s = subst (λ (U : List Edge). State net U) (sym (rounds-none 1)) s
  round-state (e ∷ L) s =
      by (saves net (e ∷ L))
      (λ h. let k = saves-so e L h in subst (λ (U : List Edge). State net U) (sym (round-made e L k)) (next-state s k))
      (λ h. subst (λ (U : List Edge). State net U) (sym (rounds-still 1 (e ∷ L) h)) s)

-- Before a round

module _ {net : Net} {T : List Edge} (s : State net T) where
  pub state-in-order : in_their_order T ≡ T
  state-in-order =
      ascending-same (first_then before before) edge_order (in_their_order T) T
      (sorted-ascending (first_then before before) edge_order T) s.ordered
      (of-sorted (first_then before before) T) (in-sorted (first_then before before) edge_order T)

  pub few-points : length (points_of net.pins T) < straight_bound
  unfolding tree_points
  few-points = omega (arith, state-points s, s.few)

  pub point-in-range : (p : Place) → p ∈ points_of net.pins T → PlaceInRange p
  point-in-range p m =
      either (s.allowed.pins-in-range p)
      (λ i. either (λ j. (s.in-range _ j).0) (λ j. (s.in-range _ j).1) (of-ends T p i).1)
      (Memᴰ.append_cases net.pins (of-sorted before (net.pins ++ ends T) p m))

-- In range is more than 32 bits ask for

number_fits : (z : ℤ) → out_of_range z ≡ false → SFits w32 z
number_fits z e = let n = in-range-near z e in to-sfits w32 z (omega (arith, n)) (omega (arith, n))

pub place-fits : (p : Place) → PlaceInRange p → PlaceFits p
place-fits p r = record { x = number_fits p.x r.x; y = number_fits p.y r.y }

pub macro-fits : (m : Macro) → MacroInRange m → MacroFits m
macro-fits m r = record {
  left = number_fits m.left r.left;
  bottom = number_fits m.bottom r.bottom;
  right = number_fits m.right r.right;
  top = number_fits m.top r.top;
}

-- The pins one by one

module _ (pins : List ℤ) where
  pins-from : (n i : ℕ) → i + n ≡ pin_count pins → drop i (pin_places pins) ≡ run (pin_at pins) i n
  unfolding run
  pins-from zero i e = pins-end pins i (omega (arith, e))
  pins-from (suc n) i e =
      let next : i + 1 ≡ suc i = omega arith in
      pins-next pins i (omega (arith, e))
      ∙ ap (λ (l : List Place). pin_at pins i ∷ l)
      (ap (λ (j : ℕ). drop j (pin_places pins)) next ∙ pins-from n (suc i) (omega (arith, e)))

  pub pins-run : pin_places pins ≡ run (pin_at pins) 0 (pin_count pins)
  pins-run = pins-from (pin_count pins) 0 (omega arith)
