-- V7: a lone pin with no edge passes, and with an edge never does: of the points of a tree with an edge two have a single edge, since
-- every point has one, and two each would be more ends than there are.
-- Assumes nothing.
use mathlib.Core.Path.{◌≡◌, refl, sym, ◌∙◌}
use mathlib.Core.Logic.{inl, inr}
use mathlib.Core.List.Memᴰ
use mathlib.Core.List.{List, [], ◌∷◌, map}
use Prim.Native.Nat.{ℕ, suc, ◌*◌, ◌≤◌}
use native.Mathlib.Omega.{arith}
use borrow.Author.Tests.{eqb-true, eqb-false}
use lib.Dec.{eqb}
use lib.ListN.{length}
use Rattle.lists.specs.Member.{◌∈◌, Once, here, there}
use Rattle.lists.specs.Total.{total}
use Rattle.lists.proofs.TestLaws.{by, either}
use Rattle.joined.specs.Joined.{Link}
use Rattle.joined.specs.Tree.{TreeOn}
use Rattle.joined.specs.OneTree.{Point}
use Rattle.joined.proofs.JoinedLaws.{has-link}
use Rattle.plane.specs.declared.Place.{Place}
use Rattle.plane.proofs.PlaceOrder.{place_same}
use Rattle.net.specs.Net.{Net}
use Rattle.bought.specs.Edges.{Edge, ends_of, points_of}
use Rattle.bought.specs.Passes.{Passes}
use Rattle.bought.specs.Verdict.{ends_at}
use Rattle.bought.proofs.EdgeLaws.{length-ends, link-end, in-ends}
use Rattle.bought.proofs.TreeTest.{points-once, pin-point, end-point, of-points}
use Rattle.bought.proofs.BareLaws.{some_at, one_single, ends-sum}
use Rattle.bought.proofs.PassLaws.{passes-tree}

-- with no edge nothing links
pub lone-passes : (net : Net) (p : Place) → net.pins ≡ p ∷ [] → Passes net []
lone-passes net p is = record {
  one = λ x y i k n. absurd (n (only x i ∙ sym (only y k)));
  once = λ a b l k. elim (either (λ m. m) (λ m. absurd (none m)) l) [ ];
  apart = λ e m. elim m [ ];
  free = λ e m. elim m [ ];
  pinned = λ v s. absurd (unlinked s.link);
}
  where
    none : {e : Edge} → e ∈ [] → ⊥
    none m = elim m [ ]

    unlinked : {x z : Place} → Link [] x z → ⊥
    unlinked (inl m) = none m
    unlinked (inr m) = none m

    only : (x : Place) → Point net.pins [] x → x ≡ p
    only x (inl m) = Memᴰ.eq_of_singleton (rw is at m)
    only x (inr (z, l)) = absurd (unlinked l)

-- two each, but for one point
module _ (f : Place → ℕ) where
  two-each : (X : List Place) → ((x : Place) → x ∈ X → 2 ≤ f x) → 2 * length X ≤ total (map f X)
  unfolding total
  two-each [] h = omega arith
  two-each (x ∷ X) h = omega (arith, h x (here refl), two-each X (λ y m. h y (there m)))

  two-but : (p : Place) (X : List Place) → Once X → ((x : Place) → x ∈ X → 1 ≤ f x) → ((x : Place) → x ∈ X → (x ≡ p → ⊥) → 2 ≤ f x) →
      2 * length X ≤ suc (total (map f X))
  unfolding total
  two-but p [] o h k = omega arith
  two-but p (x ∷ X) o h k = at (two-but p X o.1 (λ y m. h y (there m)) (λ y m. k y (there m))) (place_same x p)
    where
      at : 2 * length X ≤ suc (total (map f X)) → Dec (x ≡ p) → 2 * length (x ∷ X) ≤ suc (total (map f (x ∷ X)))
      at more (yes e) =
          omega (arith, h x (here refl), two-each X (λ y m. k y (there m) (λ q. o.0 (rw (e ∙ sym q) m))))
      at more (no n) = omega (arith, k x (here refl) n, more)

pub lone-fails : (net : Net) (p : Place) → net.pins ≡ p ∷ [] → (T : List Edge) {e : Edge} → e ∈ T → Passes net T → ⊥
lone-fails net p is T {e} m ps =
    let z : ⊥ = omega (
      arith,
      two-but (ends_at (ends_of T)) p (points_of net.pins T) (points-once net.pins T) some two,
      ends-sum (points_of net.pins T) (ends_of T) (points-once net.pins T),
      length-ends T,
      tree.size,
    ) in z
  where
    pin : p ∈ net.pins
    pin = rw is (here refl)

    tree : TreeOn (points_of net.pins T) T
    tree = passes-tree net T pin ps

    pin-only : (x : Place) → x ∈ net.pins → x ≡ p
    pin-only x i = Memᴰ.eq_of_singleton (rw is at i)

    -- the pin is an end, for it is joined to one
    pin-end : p ∈ ends_of T
    pin-end = at (place_same p e.0)
      where
        at : Dec (p ≡ e.0) → p ∈ ends_of T
        at (yes q) = rw q (in-ends T m).0
        at (no n) =
            let end = end-point net.pins T e.0 (in-ends T m).0 in
            link-end T (has-link n (tree.joins p e.0 (pin-point net.pins T p pin) end)).1

    is-end : (x : Place) → x ∈ points_of net.pins T → x ∈ ends_of T
    is-end x i = at (of-points net.pins T x i)
      where
        at : Point net.pins T x → x ∈ ends_of T
        at (inl k) = rw (pin-only x k) pin-end
        at (inr (y, l)) = link-end T l

    some : (x : Place) → x ∈ points_of net.pins T → 1 ≤ ends_at (ends_of T) x
    some x i = some_at x (ends_of T) (is-end x i)

    two : (x : Place) → x ∈ points_of net.pins T → (x ≡ p → ⊥) → 2 ≤ ends_at (ends_of T) x
    two x i n =
        by (eqb (ends_at (ends_of T) x) 1)
        (λ q. absurd (n (pin-only x (ps.pinned x (one_single x T (is-end x i) (eqb-true _ 1 q))))))
        (λ q. let d = eqb-false (ends_at (ends_of T) x) 1 q in omega (arith, some x i, d))
