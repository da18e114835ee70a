-- The tables that the search is handed: labels and seats are numbers of points.
-- Assumes nothing.
use mathlib.Core.Path.{◌≡◌, ap, ap₂, ◌∙◌}
use mathlib.Core.List.{List}
use Prim.Native.Nat.{ℕ, zero, suc, ◌≤◌, ◌<◌, min, max}
use native.Mathlib.Omega.{arith}
use borrow.Author.Tests.{ltb-true, ltb-false}
use lib.Dec.{ltb}
use lib.IntN.{ℤ}
use lib.ListN.{length, get_or}
use Rattle.lists.proofs.TestLaws.{by}
use Rattle.plane.specs.declared.Place.{Place}
use Rattle.plane.specs.Place.{same_place}
use Rattle.plane.specs.Flat.{place_at}
use Rattle.net.specs.Pins.{pin_at}
use Rattle.slide.specs.declared.Side.{Side}
use Rattle.joined.specs.Table.{changed}
use Rattle.straight.specs.Table.{straight_bound, first_end, second_end}
use Rattle.bars.specs.declared.Best.{Best}
use Rattle.reach.specs.declared.Size.{Size}
use Rattle.turned.specs.Steps.{up_to, set_up_to, Numbers}
use Rattle.turned.specs.Turned.{level_at}
use Rattle.labels.specs.Labelling.{united, joined_by, labelled}
use Rattle.moves.specs.Moving.{chosen, seat_of, seats_of, Seated}
use Rattle.bars.specs.Offers.{searched}
use Rattle.moves.proofs.MovingLaws.{chosen_less}
use Rattle.labels.proofs.LabelLaws.{set-above, set_below, labelled-is}

module _ (s : Side) (pts : List ℤ) (ks : List ℕ) (n : ℕ) (t : List ℕ) where
  above : (k x : ℕ) → n ≤ x → get_or (up_to (joined_by s pts ks n) k (set_up_to (λ i x. i) n t)) x 0 ≡ get_or t x 0
  unfolding up_to joined_by united
  above zero x h = set-above (λ i x. i) t n x h
  above (suc k) x h =
      by (level_at s pts ks k)
      (λ e. rw (joined_by, e) (set-above
      (λ i y. changed (min (get_or (up_to (joined_by s pts ks n) k (set_up_to (λ i x. i) n t)) (first_end (get_or ks k 0)) 0)
      (get_or (up_to (joined_by s pts ks n) k (set_up_to (λ i x. i) n t)) (second_end (get_or ks k 0)) 0))
      (max (get_or (up_to (joined_by s pts ks n) k (set_up_to (λ i x. i) n t)) (first_end (get_or ks k 0)) 0)
      (get_or (up_to (joined_by s pts ks n) k (set_up_to (λ i x. i) n t)) (second_end (get_or ks k 0)) 0)) y)
      (up_to (joined_by s pts ks n) k (set_up_to (λ i x. i) n t)) n x h ∙ above k x h))
      (λ e. rw (joined_by, e) (above k x h))

  pub labelled-numbers : (e : ℕ) → ((k : ℕ) → k < e → (first_end (get_or ks k 0) < n) × (second_end (get_or ks k 0) < n))
      → n ≤ straight_bound → n ≤ length t → Numbers t → Numbers (labelled s pts ks n e t)
  unfolding labelled
  labelled-numbers e within few room fresh = record {
    number = λ x.
        by (ltb x n)
        (λ h.
        let r = labelled-is s pts ks n e within t room in
        let l = ltb-true x n h in
        let q = r.holds x l in
        omega (arith, q, r.least x, l, few))
        (λ h. let q = above e x (ltb-false x n h) in omega (arith, q, fresh.number x));
  }

seat-small : (pts : List ℤ) (p : Place) (m : ℕ) → m ≤ straight_bound → up_to (λ i x. chosen (same_place p (place_at pts i)) i x) m 0 <
    straight_bound
unfolding up_to
seat-small pts p zero h = omega arith
seat-small pts p (suc m) h =
    chosen_less (same_place p (place_at pts m)) m _ straight_bound (omega arith) (seat-small pts p m (omega arith))

pub seated : (pts : List ℤ) (n : ℕ) (pins : List ℤ) (m : ℕ) (t : List ℕ) → n ≤ straight_bound → m ≤ length t
    → Seated m (seats_of pts n pins m t)
unfolding seats_of seat_of
seated pts n pins m t h l = record {
  seat = λ i k.
      let q = set_below (λ j x. seat_of pts n (pin_at pins j)) t m i l k in
      omega (arith, q, seat-small pts (pin_at pins i) n h);
}

-- the search by tables that are equal
pub searched-by : (pts : List ℤ) (ks : List ℕ) (z : Size) (ms : List ℤ) (r k q r' k' q' : List ℕ) (x : Best)
    → x ≡ searched pts ks r k z ms q → r ≡ r' → k ≡ k' → q ≡ q' → x ≡ searched pts ks r' k' z ms q'
searched-by pts ks z ms r k q r' k' q' x e f g h =
    e
    ∙ ap₂ (λ (i j : List ℕ). searched pts ks i j z ms q) f g
    ∙ ap (λ (i : List ℕ). searched pts ks r' k' z ms i) h
