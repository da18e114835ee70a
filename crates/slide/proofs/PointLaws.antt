-- The points and the edges of a tree in order: the tree points are the pins and the ends of the edges, and a tree stays one tree, at the
-- same cost, when its points and its edges are listed in order.
-- Assumes nothing.
use mathlib.Core.Path.{◌≡◌, ap, ◌∙◌}
use mathlib.Core.Logic.{inl, inr}
use mathlib.Core.List.Memᴰ
use mathlib.Core.List.{List, [], ◌∷◌, ◌++◌}
use native.Mathlib.Omega.{arith}
use lib.ListN.{length}
use Rattle.lists.specs.Member.{◌∈◌, here, there, Among, Once}
use Rattle.lists.specs.Sorted.{first_then, Order, Ascending}
use Rattle.lists.proofs.TestLaws.{either}
use Rattle.lists.proofs.MemberLaws.{once-length}
use Rattle.lists.proofs.OrderLaws.{pair-order}
use Rattle.lists.proofs.SortedLaws.{in-sorted, of-sorted, sorted-ascending, ascending-once, ascending-same}
use Rattle.plane.specs.declared.Place.{Place}
use Rattle.plane.specs.Place.{before}
use Rattle.plane.proofs.PlaceOrder.{place-order, place_same}
use Rattle.joined.specs.Joined.{Link, Inside}
use Rattle.joined.specs.Tree.{TreeOn, Forest}
use Rattle.joined.specs.Cost.{lengths}
use Rattle.joined.proofs.JoinedLaws.{has-link, one}
use Rattle.joined.proofs.TreeLaws.{tree-linked, tree-forest}
use Rattle.joined.proofs.CostLaws.{lengths-once}
use Rattle.net.specs.Net.{Net, cost_in}
use Rattle.slide.specs.Bend.{Edge}
use Rattle.slide.specs.Slide.{ends, tree_points, in_their_order}
use Rattle.slide.specs.Promise.{Sound}
use Rattle.slide.proofs.BendEnds.{same_ends, more-links}
use Rattle.slide.proofs.EndLaws.{decide}

-- The tree points

pub in-ends : (T : List Edge) (a b : Place) → (a, b) ∈ T → (a ∈ ends T) × (b ∈ ends T)
unfolding ends
in-ends [] a b m = elim m [ ]
in-ends (e ∷ T) a b m =
    either
    (λ k. (here (ap (λ (p : Edge). p.0) k), there (here (ap (λ (p : Edge). p.1) k))))
    (λ i. let r = in-ends T a b i in (there (there r.0), there (there r.1)))
    (Memᴰ.cases_cons m)

pub of-ends : (T : List Edge) (x : Place) → x ∈ ends T → (z : Place) × Link T x z
unfolding ends
of-ends [] x m = elim m [ ]
of-ends (e ∷ T) x m =
    either
    (λ k. (e.1, inl (here (ap (λ (p : Place). (p, e.1)) k))))
    (λ i. either
    (λ k. (e.0, inr (here (ap (λ (p : Place). (e.0, p)) k))))
    (λ j. let r = of-ends T x j in (r.0, either (λ l. inl (there l)) (λ l. inr (there l)) r.1))
    (Memᴰ.cases_cons i))
    (Memᴰ.cases_cons m)

link-ends : (T : List Edge) (x z : Place) → Link T x z → x ∈ ends T
link-ends T x z (inl m) = (in-ends T x z m).0
link-ends T x z (inr m) = (in-ends T z x m).1

module _ (net : Net) (T : List Edge) where
  pub points-ascending : Ascending before (tree_points net T)
  unfolding tree_points
  points-ascending = sorted-ascending before place-order (net.pins ++ ends T)

  -- the points of a tree with a pin are the pins and the ends of its edges
  module _ {X : List Place} (tree : TreeOn X T) (inside : Inside X T) (pinned : Among net.pins X) (pin : Place)
      (p : pin ∈ net.pins) where
    pub points-in : Among (tree_points net T) X
    unfolding tree_points
    points-in x m =
        either (pinned x) (λ i. stands (of-ends T x i).1)
        (Memᴰ.append_cases net.pins (of-sorted before (net.pins ++ ends T) x m))
      where
        stands : {z : Place} → Link T x z → x ∈ X
        stands (inl m) = (inside _ _ m).0
        stands (inr m) = (inside _ _ m).1

    pub in-points : Among X (tree_points net T)
    unfolding tree_points
    in-points x m =
        in-sorted before place-order (net.pins ++ ends T) x
        (decide (place_same x pin)
        (λ e. Memᴰ.append_left (ends T) (Memᴰ.cast e p))
        (λ n. let r = has-link n (tree.joins x pin m (pinned pin p)) in Memᴰ.append_right net.pins (link-ends T x r.0 r.1)))

    -- in order, they are the tree's points
    pub points-are : Ascending before X → X ≡ tree_points net T
    points-are o = ascending-same before place-order X (tree_points net T) o points-ascending in-points points-in

-- The edges in order

pub edge_order : Order (first_then before before)
edge_order = pair-order before before place-order place-order

-- no edge of a tree stands twice
forest-once : (T : List Edge) → Forest T → Once T
forest-once [] f = tt
forest-once (e ∷ T) f = (λ m. f.0 (one (inl m)), forest-once T f.1)

module _ {net : Net} {X : List Place} (T : List Edge) (t : Sound net X T) where
  once : Once T
  once = forest-once T (tree-forest place_same t.tree)

  there-too : Among T (in_their_order T)
  there-too = in-sorted (first_then before before) edge_order T

  here-too : Among (in_their_order T) T
  here-too = of-sorted (first_then before before) T

  once-too : Once (in_their_order T)
  once-too = ascending-once (first_then before before) edge_order (in_their_order T) (sorted-ascending (first_then before before) edge_order T)

  pub sorted-length : length (in_their_order T) ≡ length T
  sorted-length = omega (arith, once-length (in_their_order T) T once-too here-too, once-length T (in_their_order T) once there-too)

  pub sorted-sound : Sound net X (in_their_order T)
  sorted-sound = record {
    tree = tree-linked t.tree (λ a b m. inl (there-too (a, b) m)) sorted-length;
    inside = λ a b m. t.inside a b (here-too (a, b) m);
    pinned = t.pinned;
    free = λ a b m. t.free a b (here-too (a, b) m);
    ends = same_ends net.pins (more-links net.pins T (in_their_order T) there-too) (more-links net.pins (in_their_order T) T here-too) t.ends;
  }

  pub sorted-costs : lengths (cost_in net) (in_their_order T) ≡ lengths (cost_in net) T
  sorted-costs =
      omega (arith, lengths-once (cost_in net) (in_their_order T) T once-too here-too, lengths-once (cost_in net) T (in_their_order T) once there-too)

-- The points in order

module _ {net : Net} {X : List Place} (T : List Edge) (t : Sound net X T) (pin : Place) (has-pin : pin ∈ net.pins) where
  pub points-sound : Sound net (tree_points net T) T
  points-sound = record {
    tree = record {
      once = once-points;
      joins = λ x y i k. t.tree.joins x y (to x i) (to y k);
      size = t.tree.size ∙ omega (
        arith,
        once-length X (tree_points net T) t.tree.once back,
        once-length (tree_points net T) X once-points to,
      );
    };
    inside = λ a b m. let h = t.inside a b m in (back a h.0, back b h.1);
    pinned = λ p i. back p (t.pinned p i);
    free = t.free;
    ends = t.ends;
  }
    where
      once-points : Once (tree_points net T)
      once-points = ascending-once before place-order (tree_points net T) (points-ascending net T)

      to : Among (tree_points net T) X
      to = points-in net T t.tree t.inside t.pinned pin has-pin

      back : Among X (tree_points net T)
      back = in-points net T t.tree t.inside t.pinned pin has-pin
