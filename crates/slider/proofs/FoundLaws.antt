-- A round by the best move that was found on tables: where that agrees with the choice of crate slide and its label tells the bar, the
-- edges after the move on tables are those after the round, and what moves fits.
-- Assumes nothing.
use mathlib.Core.Path.{◌≡◌, refl, sym, ap, ◌∙◌, subst}
use mathlib.Core.Bool.{true, false, not}
use mathlib.Core.List.{List, [], ◌∷◌}
use Prim.Native.Nat.{ℕ, ◌<◌}
use native.Mathlib.Omega.{arith}
use borrow.Author.Tests.{eq-eqb, ne_eqb}
use lib.Dec.{eqb}
use lib.IntN.{ℤ}
use lib.ListN.{get_or}
use Rattle.plane.specs.Flat.{place_at}
use Rattle.net.specs.Net.{Net}
use Rattle.net.specs.Allowed.{PlaceInRange}
use Rattle.slide.specs.declared.Move.{Move}
use Rattle.slide.specs.Bend.{Edge}
use Rattle.slide.specs.Bar.{on_bar}
use Rattle.slide.specs.Slide.{in_their_order, slide, choice, make, rounds}
use Rattle.slide.specs.Promise.{State}
use Rattle.slide.proofs.MoveRange.{Carries, choice-carries}
use Rattle.straight.specs.Table.{edges_in, Within}
use Rattle.bars.specs.declared.Best.{Best}
use Rattle.bars.proofs.AgreeLaws.{Agrees}
use Rattle.shifted.specs.declared.Shift.{Shift}
use Rattle.shifted.specs.Shift.{on_label, shifted, Movable}
use Rattle.labels.specs.Labelling.{labels_for}
use Rattle.slider.specs.Round.{saves}
use Rattle.shifted.proofs.ShiftedLaws.{shifted-is}
use Rattle.slider.proofs.RoundLaws.{round-made, place-fits}

-- the best move r was found for the edges T, whose points are the first n places of pts
pub record Found (net : Net) (pts : List ℤ) (n : ℕ) (rows columns : List ℕ) (r : Best) (T : List Edge) : Type 0 where
  pub agrees : (e : Edge) (L : List Edge) → T ≡ e ∷ L → Agrees r.best (choice net T e L)
  pub none : T ≡ [] → r.best.saving ≡ 0
  pub on : 0 < r.best.saving → (i : ℕ) → i < n →
      on_bar r.best.side T r.best.first (place_at pts i) ≡ eqb (get_or (labels_for r.best.side rows columns) i 0) r.label

abbrev pub shift_of : Best → Shift
shift_of r = record { label = r.label; side = r.best.side; distance = r.best.distance }

module _ {net : Net} {pts : List ℤ} {n : ℕ} {rows columns : List ℕ} {r : Best} where
  pub found_none : (T : List Edge) → Found net pts n rows columns r T → r.best.saving ≡ 0 → saves net T ≡ false
  unfolding saves
  found_none [] f z = refl
  found_none (e ∷ L) f z =
      ap not (eq-eqb (choice net (e ∷ L) e L).saving 0 (sym (f.agrees e L refl).saves ∙ z))

  pub found_some : (T : List Edge) → Found net pts n rows columns r T → (r.best.saving ≡ 0 → ⊥) → saves net T ≡ true
  unfolding saves
  found_some [] f h = absurd (h (f.none refl))
  found_some (e ∷ L) f h =
      ap not (ne_eqb (choice net (e ∷ L) e L).saving 0 (λ z. h ((f.agrees e L refl).saves ∙ z)))

  -- the choice itself
  found-is : (e : Edge) (L : List Edge) → Found net pts n rows columns r (e ∷ L) → (r.best.saving ≡ 0 → ⊥) →
      (r.best ≡ choice net (e ∷ L) e L) × ((choice net (e ∷ L) e L).saving ≡ 0 → ⊥)
  found-is e L f h =
      let a = f.agrees e L refl in
      let z : (choice net (e ∷ L) e L).saving ≡ 0 → ⊥ = λ z. h (a.saves ∙ z) in
      (a.is (omega (arith, z)), z)

  found-made : (T : List Edge) → Found net pts n rows columns r T → (r.best.saving ≡ 0 → ⊥) → rounds net 1 T ≡ make r.best T
  found-made [] f h = absurd (h (f.none refl))
  found-made (e ∷ L) f h =
      let k = found-is e L f h in
      round-made net e L k.1 ∙ ap (λ (m : Move). make m (e ∷ L)) (sym k.0)

  found-carries : (T : List Edge) → State net T → Found net pts n rows columns r T → (r.best.saving ≡ 0 → ⊥) → Carries T r.best
  found-carries [] s f h = absurd (h (f.none refl))
  found-carries (e ∷ L) s f h =
      let k = found-is e L f h in
      subst (λ (m : Move). Carries (e ∷ L) m) (sym k.0) (choice-carries s k.1)

  module _ (T : List Edge) (s : State net T) (f : Found net pts n rows columns r T) (h : r.best.saving ≡ 0 → ⊥) where
    told : (i : ℕ) → i < n →
        on_label (shift_of r) (labels_for r.best.side rows columns) i ≡ on_bar r.best.side T r.best.first (place_at pts i)
    told i l = sym (f.on (omega (arith, h)) i l)

    pub found-movable : ((i : ℕ) → i < n → PlaceInRange (place_at pts i)) →
        Movable (shift_of r) pts n (labels_for r.best.side rows columns)
    found-movable ranged = record {
      each = λ i l. record {
        fits = λ t.
            let c = found-carries T s f h in
            let p = place-fits _ (c.in-range (place_at pts i) (sym (told i l) ∙ t) (ranged i l)) in
            record { small = omega (arith, c.near); x = p.x; y = p.y };
      };
    }

    -- the edges after the round
    pub found-edges : (keys : List ℕ) (e : ℕ) → Within n keys → edges_in pts keys e ≡ T →
        in_their_order (shifted (shift_of r) pts (labels_for r.best.side rows columns) keys e) ≡ rounds net 1 T
    unfolding make
    found-edges keys e within listed =
        let on = on_bar r.best.side T r.best.first in
        ap in_their_order
        (shifted-is (shift_of r) pts (labels_for r.best.side rows columns) keys n e on told within
        ∙ ap (slide r.best.side on r.best.distance) listed)
        ∙ sym (found-made T f h)
