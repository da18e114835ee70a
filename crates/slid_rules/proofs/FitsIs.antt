-- What is allowed is what fits, and the ends of a bar are its first and its last point.
-- Assumes nothing.
use mathlib.Core.Path.{◌≡◌, refl, sym, ap, ◌∙◌, subst}
use mathlib.Core.Bool.{Bool, true, false}
use mathlib.Core.Logic.{◌⊎◌, inl, inr, ◌↔◌}
use mathlib.Core.List.Memᴰ
use mathlib.Core.List.{List, [], ◌∷◌, ◌++◌}
use Prim.Native.Nat.{ℕ, ◌≤◌}
use Rattle.lists.specs.Member.{◌∈◌, here, there}
use Rattle.lists.specs.Those.{those}
use Rattle.lists.proofs.TestLaws.{by, differ, either}
use Rattle.lists.proofs.SortedLaws.{of-sorted, in-sorted}
use Rattle.lists.proofs.ThoseLaws.{in-those, of-those}
use Rattle.plane.specs.declared.Place.{Place}
use Rattle.plane.specs.Place.{before}
use Rattle.plane.specs.Box.{InBox}
use Rattle.plane.proofs.PlaceOrder.{place-order}
use Rattle.joined.specs.Joined.{Link, Joined}
use Rattle.joined.specs.OneTree.{Point}
use Rattle.net.specs.Net.{Net}
use Rattle.slide.specs.declared.Side.{Side}
use Rattle.slide.specs.Side.{across, moved}
use Rattle.slide.specs.Bend.{Edge}
use Rattle.slide.specs.Bar.{ahead, shortest, far_ends, first_of, last_of}
use Rattle.slide.specs.Sweep.{first_place, last_place, swept, allowed, reach}
use Rattle.slide.specs.Slide.{ends, tree_points}
use Rattle.slide.specs.Sentences.{Unblocked, MovesAsFar}
use Rattle.slide.proofs.BarLaws.{first_one, last_one, first-least, last-greatest}
use Rattle.slide.proofs.PointLaws.{in-ends, of-ends}
use Rattle.slide.proofs.SentenceLaws.{moves-as-far}
use Rattle.slid_rules.specs.Bar.{Ahead, FarEnd, Ends, Free, Fits}
use Rattle.slid_rules.proofs.BarIs.{Tests, far-ends, at-bar, shortest-each, each-shortest}

-- The tree points

module _ (net : Net) (T : List Edge) where
  pub points-hold : (p : Place) → (p ∈ tree_points net T) ↔ Point net.pins T p
  unfolding tree_points
  points-hold p = (to, from)
    where
      to : p ∈ tree_points net T → Point net.pins T p
      to i =
          either inl (λ k. inr (of-ends T p k))
          (Memᴰ.append_cases net.pins (of-sorted before (net.pins ++ ends T) p i))

      at : Point net.pins T p → p ∈ (net.pins ++ ends T)
      at (inl m) = Memᴰ.append_left (ends T) m
      at (inr (z, inl m)) = Memᴰ.append_right net.pins (in-ends T p z m).0
      at (inr (z, inr m)) = Memᴰ.append_right net.pins (in-ends T z p m).1

      from : Point net.pins T p → p ∈ tree_points net T
      from h = in-sorted before place-order (net.pins ++ ends T) p (at h)

-- a is a point of the bar, and all points of the bar are tree points
module _ (s : Side) (net : Net) (T : List Edge) (on : Place → Bool) (B : Place → Type 0) (t : Tests s T on B)
    (a : Place) (stands : on a ≡ true) (inside : (p : Place) → B p → p ∈ tree_points net T) where
  abbrev X : List Place
  X = tree_points net T

  abbrev F : Place
  F = first_place s on X T a

  abbrev L : Place
  L = last_place s on X T a

  -- M8: the first and the last
  of-bar : (p : Place) → p ∈ (a ∷ those on X) → B p
  of-bar p i = (t.is p).0 (either (λ e. rw e stands) (λ k. (of-those on X k).1) (Memᴰ.cases_cons i))

  in-bar : (p : Place) → B p → p ∈ (a ∷ those on X)
  in-bar p b = there (in-those on X (inside p b) ((t.is p).1 b))

  pub ends-are : Ends s T B F L
  unfolding first_place last_place
  ends-are = record {
    first = of-bar F (first_one a (those on X));
    none_before = λ p b. first-least a (those on X) p (in-bar p b);
    last = of-bar L (last_one a (those on X));
    none_after = λ p b. last-greatest a (those on X) p (in-bar p b);
  }

  pub ends-only : (f l : Place) → Ends s T B f l → (f ≡ F) × (l ≡ L)
  ends-only f l e =
      let r = ends-are in (
        place-order.tie f F (r.none_before f e.first) (e.none_before F r.first),
        place-order.tie l L (e.none_after L r.last) (r.none_after l e.last),
      )

  -- M9, M10
  abbrev far-as : MovesAsFar s on X T a net
  far-as = moves-as-far s on X T a net

  allowed-free : (d : ℕ) → allowed s on X T a net d ≡ true → Free s T B net F L d
  unfolding swept
  allowed-free d h =
      let u = (far-as.allowed-is d).0 h in
      record {
        macros = u.macros;
        points = λ p m i.
            either (λ o. inl ((t.is p).0 o)) (λ k. inr ((far-ends s T on B t p).0 k)) (u.points p ((points-hold net T p).1 m) i);
        edges = λ e m q i k.
            either (λ o. inl ((at-bar s T on B t e m).0 (inl o)))
            (either (λ o. inl ((at-bar s T on B t e m).0 (inr o)))
            (λ z. inr (z.0, ((far-ends s T on B t z.0).0 z.1.0, z.1.1))))
            (u.edges e m q i k);
      }

  free-allowed : (d : ℕ) → Free s T B net F L d → allowed s on X T a net d ≡ true
  unfolding swept
  free-allowed d u =
      (far-as.allowed-is d).1 (record {
        macros = u.macros;
        points = λ p m i.
            either (λ b. inl ((t.is p).1 b)) (λ k. inr ((far-ends s T on B t p).1 k)) (u.points p ((points-hold net T p).0 m) i);
        edges = λ e m q i k.
            either (λ o. either (λ h. inl h) (λ h. inr (inl h)) ((at-bar s T on B t e m).1 o))
            (λ z. inr (inr (z.0, ((far-ends s T on B t z.0).1 z.1.0, z.1.1))))
            (u.edges e m q i k);
      })

  -- where an edge hangs on the side, the distance is the greatest that fits
  module _ (e : Edge) (m : e ∈ T) (hangs : ahead s on e ≡ true) where
    pub reach-fits : (reach s on net X T a ≡ 0 → ⊥) → Fits s T B net F L (reach s on net X T a)
    reach-fits n = record {
      short = shortest-each s T on B t _ far-as.most;
      free = either (λ z. absurd (n z)) (λ u. allowed-free _ ((far-as.allowed-is _).1 u)) far-as.unblocked;
    }

    pub fits-reach : (k : ℕ) → Fits s T B net F L k → k ≤ reach s on net X T a
    fits-reach k f =
        far-as.no-farther k (each-shortest s T on B t e m hangs k f.short)
        ((far-as.allowed-is k).0 (free-allowed k f.free))
