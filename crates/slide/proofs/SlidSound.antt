-- The slid tree of a refined tree: one tree with all pins, clear, its loose ends pins, no dearer, and at most twice as many edges; and
-- axis-parallel unless the refined tree is given back.
-- Assumes nothing.
use mathlib.Core.Path.{◌≡◌, refl, sym, ap, ◌∙◌, subst}
use mathlib.Core.Bool.{true}
use mathlib.Core.Logic.{inl, inr}
use mathlib.Core.List.Memᴰ
use mathlib.Core.List.{List}
use Prim.Native.Nat.{◌+◌, ◌≤◌}
use native.Mathlib.Omega.{arith}
use lib.ListN.{length}
use Rattle.lists.specs.Member.{◌∈◌, Among, Once}
use Rattle.lists.specs.Sorted.{first_then, Ascending}
use Rattle.lists.proofs.TestLaws.{differ, either}
use Rattle.lists.proofs.MemberLaws.{rest_in, rest-gone}
use Rattle.lists.proofs.SortedLaws.{in-sorted, of-sorted, sorted-ascending, ascending-once}
use Rattle.plane.specs.declared.Place.{Place}
use Rattle.plane.specs.Place.{before}
use Rattle.plane.proofs.PlaceOrder.{place-order, place_same}
use Rattle.joined.specs.Joined.{Link, others, Inside}
use Rattle.joined.specs.OneTree.{Point, Simple}
use Rattle.joined.specs.Cost.{lengths}
use Rattle.joined.proofs.OneTreeLaws.{tree-one, one-tree}
use Rattle.net.specs.Net.{Net, cost_in}
use Rattle.slide.specs.Bend.{Edge, Bent, bent, given_back, bends}
use Rattle.slide.specs.Slide.{ends, tree_points, in_their_order, rounds, after_bends, slid}
use Rattle.slide.specs.Promise.{Straight, Smaller, Within, Sound, Given, RoundsOf, Promise}
use Rattle.slide.proofs.GlueLaws.{UprightAll}
use Rattle.slide.proofs.BendLaws.{Bends, bends-do, bends-tree}
use Rattle.slide.proofs.RangeLaws.{bends-within}
use Rattle.slide.proofs.SmallerLaws.{bends-smaller}
use Rattle.slide.proofs.BendEnds.{bends-ends}
use Rattle.slide.proofs.PointLaws.{in-ends, of-ends, points-ascending, edge_order, sorted-length, sorted-sound, sorted-costs}
use Rattle.slide.proofs.PointLaws.{points-sound}
use Rattle.slide.proofs.RoundLaws.{Rounds, rounds-sound, rounds-of}

module _ {T : List Edge} (small : Smaller T) (ordered : Ascending (first_then before before) T) where
  -- no edge twice, read either way, and none with equal ends
  pub simple : Simple T
  unfolding others
  simple = record { apart = λ a b m e. place-differs a b (small a b m) e; single = single }
    where
      place-differs : (a b : Place) → before a b ≡ true → a ≡ b → ⊥
      place-differs a b h e = differ h (ap (before a) (sym e) ∙ place-order.never a)

      once : Once T
      once = ascending-once (first_then before before) edge_order T ordered

      both_ways : (a b : Place) → before a b ≡ true → before b a ≡ true → ⊥
      both_ways a b h k = differ (place-order.along a b a h k) (place-order.never a)

      single : (a b : Place) (l : Link T a b) → Link (others l) a b → ⊥
      single a b (inl m) (inl k) = rest-gone m once k
      single a b (inl m) (inr k) = both_ways a b (small a b m) (small b a (rest_in m k))
      single a b (inr m) (inl k) = both_ways a b (small a b (rest_in m k)) (small b a m)
      single a b (inr m) (inr k) = rest-gone m once k

module _ (net : Net) (pin : Place) (has-pin : pin ∈ net.pins) (T : List Edge) where
  abbrev points : List Place
  points = tree_points net T

  points-inside : Inside points T
  unfolding tree_points
  points-inside a b m =
      let h = in-ends T a b m in (
        in-sorted before place-order _ a (Memᴰ.append_right net.pins h.0),
        in-sorted before place-order _ b (Memᴰ.append_right net.pins h.1),
      )

  points-pinned : Among net.pins points
  unfolding tree_points
  points-pinned p i = in-sorted before place-order _ p (Memᴰ.append_left (ends T) i)

  -- a tree point is a pin or the end of an edge
  is-point : (x : Place) → Point points T x → Point net.pins T x
  unfolding tree_points
  is-point x (inr l) = inr l
  is-point x (inl m) = either inl (λ i. inr (of-ends T x i)) (Memᴰ.append_cases net.pins (of-sorted before _ x m))

  pub given-sound : Given net T → Sound net (tree_points net T) T
  given-sound g = record {
    tree =
        one-tree place_same points-inside (simple g.smaller g.ordered)
        (λ x y i k n. let r = g.one x y (is-point x i) (is-point y k) n in record { free = r.free; only = r.only })
        (ascending-once before place-order points (points-ascending net T))
        (points-pinned pin has-pin);
    inside = points-inside;
    pinned = points-pinned;
    free = g.free;
    ends = g.ends;
  }

-- The slid tree

module _ (net : Net) (upright : UprightAll net.macros) (pin : Place) (has-pin : pin ∈ net.pins) (T : List Edge) where
  pub record Slid (S : List Edge) : Type 0 where
    pub sound : Sound net (tree_points net S) S
    pub cheaper : lengths (cost_in net) S ≤ lengths (cost_in net) T
    pub few : length S ≤ length T + length T
    pub lines : (Y : List Place) (U : List Edge) → bends (tree_points net T) T ≡ bent Y U → Straight S
    pub back : bends (tree_points net T) T ≡ given_back → S ≡ T
    pub within : (lo hi : Place) → Within lo hi T → Within lo hi S
    pub smaller : Smaller T → Smaller S
    pub ordered : Ascending (first_then before before) T → Ascending (first_then before before) S
    pub rounds : (Y : List Place) (U : List Edge) → bends (tree_points net T) T ≡ bent Y U → RoundsOf net (length Y) (in_their_order U)

  -- one of the two
  bent-or-back : {Y : List Place} {U : List Edge} → bent Y U ≡ given_back → ⊥
  bent-or-back e = subst bent_only e tt
    where
      bent_only : Bent → Type 0
      bent_only (bent Y U) = Unit {0}
      bent_only given_back = ⊥

  -- what bends leave
  module _ (t : Sound net (tree_points net T) T) (Y : List Place) (U : List Edge) (e : bends (tree_points net T) T ≡ bent Y U) where
    pub bent-does : Bends net (tree_points net T) T Y U
    bent-does = bends-do net (tree_points net T) T Y U t.inside e

    pub bent-sound : Sound net Y U
    bent-sound = record {
      tree = bends-tree net bent-does t.tree;
      inside = bent-does.inside;
      pinned = λ p i. bent-does.keeps p (t.pinned p i);
      free = bent-does.free t.free;
      ends = bends-ends net.pins (tree_points net T) T Y U t.inside e t.ends;
    }

    pub in-order-sound : Sound net (tree_points net (in_their_order U)) (in_their_order U)
    in-order-sound = points-sound (in_their_order U) (sorted-sound U bent-sound) pin has-pin

    pub bent-lines : Straight (in_their_order U)
    bent-lines x y m = bent-does.straight x y (of-sorted (first_then before before) U (x, y) m)

    played : Rounds net upright pin has-pin (in_their_order U) (rounds net (length Y) (in_their_order U))
    played = rounds-sound net upright pin has-pin (length Y) (in_their_order U) in-order-sound bent-lines

    each-round : RoundsOf net (length Y) (in_their_order U)
    each-round = rounds-of net upright pin has-pin (length Y) (in_their_order U) in-order-sound bent-lines

  slid_at : (t : Sound net (tree_points net T) T) (r : Bent) → bends (tree_points net T) T ≡ r → Slid (after_bends net T r)
  unfolding after_bends
  slid_at t (bent Y U) e =
      let p = played t Y U e in
      let in-U : (x y : Place) → (x, y) ∈ in_their_order U → (x, y) ∈ U = λ x y m. of-sorted (first_then before before) U (x, y) m in
      record {
        sound = p.sound;
        cheaper = omega (arith, sorted-costs U (bent-sound t Y U e), p.cheaper, (bent-does t Y U e).costs);
        few = omega (arith, sorted-length U (bent-sound t Y U e), p.fewer, (bent-does t Y U e).few);
        lines = λ Z W k. p.lines;
        back = λ k. absurd (bent-or-back (sym e ∙ k));
        within = λ lo hi i. p.within lo hi (λ x y m. bends-within lo hi (tree_points net T) T Y U e i x y (in-U x y m));
        smaller = λ i. p.smaller (λ x y m. bends-smaller (tree_points net T) T Y U e i x y (in-U x y m));
        ordered = λ i. p.ordered (sorted-ascending (first_then before before) edge_order U);
        rounds = λ Z W k. each-round t Z W k;
      }
  slid_at t given_back e = record {
    sound = t;
    cheaper = omega arith;
    few = omega arith;
    lines = λ Y U k. absurd (bent-or-back (sym k ∙ e));
    back = λ k. refl;
    within = λ lo hi i. i;
    smaller = λ i. i;
    ordered = λ i. i;
    rounds = λ Y U k. absurd (bent-or-back (sym k ∙ e));
  }

  pub slid-sound : {X : List Place} → Sound net X T → Slid (slid net T)
  unfolding slid
  slid-sound t = slid_at (points-sound T t pin has-pin) (bends (tree_points net T) T) refl

  -- The theorem

  pub slid-promise : Given net T → Promise net T (slid net T)
  slid-promise g =
      let r = slid-sound (given-sound net pin has-pin T g) in
      record {
        given = record {
          one = tree-one place_same r.sound.tree r.sound.inside net.pins r.sound.pinned;
          free = r.sound.free;
          smaller = r.smaller g.smaller;
          ordered = r.ordered g.ordered;
          ends = r.sound.ends;
        };
        cheaper = r.cheaper;
        few = r.few;
        lines = r.lines;
        back = r.back;
        within = r.within;
        rounds = r.rounds;
      }
