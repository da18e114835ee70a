-- What code has of the edges before each round: from the refined tree's through bending, and from one round to the next.
-- Assumes nothing.
use mathlib.Core.Path.{◌≡◌, refl, sym, ap}
use mathlib.Core.List.{List, [], ◌∷◌}
use Prim.Native.Nat.{ℕ, suc, ◌≤◌}
use native.Mathlib.Omega.{arith}
use borrow.Author.Tests.{eqb-true, eq-eqb}
use lib.Dec.{eqb}
use lib.ListN.{length}
use Rattle.lists.specs.Member.{◌∈◌, here}
use Rattle.lists.specs.Sorted.{first_then}
use Rattle.lists.proofs.TestLaws.{by}
use Rattle.lists.proofs.SortedLaws.{of-sorted, sorted-ascending}
use Rattle.plane.specs.declared.Place.{Place}
use Rattle.plane.specs.Place.{before}
use Rattle.net.specs.Net.{Net}
use Rattle.net.specs.Allowed.{PlaceInRange}
use Rattle.slide.specs.Bend.{Edge, bent, given_back, bends}
use Rattle.slide.specs.Slide.{tree_points, in_their_order, choice, make, rounds, after_bends, slid}
use Rattle.slide.specs.Promise.{Within, Sound, Slidable, State}
use Rattle.slide.proofs.InRange.{least_place, greatest_place, range-box, box-in-range}
use Rattle.slide.proofs.RangeLaws.{bends-within}
use Rattle.slide.proofs.SmallerLaws.{bends-smaller}
use Rattle.slide.proofs.PointLaws.{edge_order, sorted-length}
use Rattle.slide.proofs.RoundLaws.{round-sound}
use Rattle.slide.proofs.SlidSound.{given-sound, bent-does, bent-sound, in-order-sound, bent-lines}

-- In range, by the box of all coordinates

pub range-within : (T : List Edge) → ((e : Edge) → e ∈ T → PlaceInRange e.0 × PlaceInRange e.1) → Within least_place greatest_place T
range-within T h x y m = let r = h (x, y) m in (range-box x r.0, range-box y r.1)

within-range : (T : List Edge) → Within least_place greatest_place T → (e : Edge) → e ∈ T → PlaceInRange e.0 × PlaceInRange e.1
within-range T h e m = let r = h e.0 e.1 m in (box-in-range e.0 r.0, box-in-range e.1 r.1)

-- a net has a pin
pub first-pin : (l : List Place) → 1 ≤ length l → (p : Place) × (p ∈ l)
first-pin [] h = absurd (let z : ⊥ = omega (arith, h) in z)
first-pin (p ∷ l) h = (p, here refl)

-- After bending

module _ {net : Net} {T : List Edge} (s : Slidable net T) where
  pub slidable-sound : Sound net (tree_points net T) T
  slidable-sound = let p = first-pin net.pins s.allowed.some-pin in given-sound net p.0 p.1 T s.given

  pub bent-state : (Y : List Place) (U : List Edge) → bends (tree_points net T) T ≡ bent Y U → State net (in_their_order U)
  bent-state Y U e =
      let p = first-pin net.pins s.allowed.some-pin in
      let up = s.allowed.upright in
      let t = slidable-sound in
      let X = tree_points net T in
      let of : (x y : Place) → (x, y) ∈ in_their_order U → (x, y) ∈ U = λ x y m. of-sorted (first_then before before) U (x, y) m in
      let b = bent-sound net up p.0 p.1 T t Y U e in
      record {
        allowed = s.allowed;
        sound = in-order-sound net up p.0 p.1 T t Y U e;
        lines = bent-lines net up p.0 p.1 T t Y U e;
        smaller = λ x y m. bends-smaller X T Y U e s.given.smaller x y (of x y m);
        ordered = sorted-ascending (first_then before before) edge_order U;
        few = omega (arith, sorted-length U b, (bent-does net up p.0 p.1 T t Y U e).few, s.few);
        in-range = within-range (in_their_order U)
            (λ x y m. bends-within least_place greatest_place X T Y U e (range-within T s.in-range) x y (of x y m));
      }

-- From round to round

module _ {net : Net} {e : Edge} {L : List Edge} (s : State net (e ∷ L)) where
  pub next-state : ((choice net (e ∷ L) e L).saving ≡ 0 → ⊥) → State net (make (choice net (e ∷ L) e L) (e ∷ L))
  unfolding make
  next-state saves =
      let p = first-pin net.pins s.allowed.some-pin in
      let r = round-sound net s.allowed.upright p.0 p.1 e L s.sound s.lines saves in
      record {
        allowed = s.allowed;
        sound = r.sound;
        lines = r.lines;
        smaller = r.smaller s.smaller;
        ordered = sorted-ascending (first_then before before) edge_order _;
        few = omega (arith, r.fewer, s.few);
        in-range = within-range _ (r.within least_place greatest_place (range-within (e ∷ L) s.in-range));
      }

-- one point more than edges
pub state-points : {net : Net} {T : List Edge} → State net T → length (tree_points net T) ≡ suc (length T)
state-points s = sym s.sound.tree.size

-- The rounds, one by one

module _ (net : Net) (n : ℕ) (e : Edge) (L : List Edge) where
  pub rounds-over : (choice net (e ∷ L) e L).saving ≡ 0 → rounds net (suc n) (e ∷ L) ≡ e ∷ L
  unfolding rounds
  rounds-over h = rw (rounds, eq-eqb (choice net (e ∷ L) e L).saving 0 h) refl

  pub rounds-next : ((choice net (e ∷ L) e L).saving ≡ 0 → ⊥) →
      rounds net (suc n) (e ∷ L) ≡ rounds net n (make (choice net (e ∷ L) e L) (e ∷ L))
  unfolding rounds
  rounds-next h =
      by (eqb (choice net (e ∷ L) e L).saving 0)
      (λ z. absurd (h (eqb-true (choice net (e ∷ L) e L).saving 0 z)))
      (λ z. rw (rounds, z) refl)

module _ (net : Net) (T : List Edge) where
  pub slid-bent : (Y : List Place) (U : List Edge) → bends (tree_points net T) T ≡ bent Y U → slid net T ≡ rounds net (length Y) (in_their_order U)
  unfolding slid after_bends
  slid-bent Y U e = ap (after_bends net T) e

  pub slid-back : bends (tree_points net T) T ≡ given_back → slid net T ≡ T
  unfolding slid after_bends
  slid-back e = ap (after_bends net T) e
