-- The test for one tree says what one tree is (V3, V4). All labels are one exactly where the edges join all points, by their numbers and
-- so by their places; with one edge fewer than points that is a tree by the count of its edges, and such a tree is one tree as R20 has it.
-- Assumes nothing.
use mathlib.Core.Path.{◌≡◌, sym, ap, ◌∙◌}
use mathlib.Core.Bool.{Bool, true, not}
use mathlib.Core.Logic.{inl, inr}
use mathlib.Core.List.Memᴰ
use mathlib.Core.List.{List, ◌++◌, map}
use Prim.Native.Nat.{ℕ, zero, suc, ◌+◌, ◌≤◌, ◌<◌}
use native.Mathlib.Omega.{arith}
use borrow.Author.Tests.{eqb-true, eq-eqb, not-false}
use lib.Dec.{eqb}
use lib.IntN.{pos}
use lib.ListN.{length, get_or}
use Rattle.lists.specs.Any.{any}
use Rattle.lists.specs.Member.{◌∈◌, Among, Once, here, there}
use Rattle.lists.specs.Sorted.{position, Ascending}
use Rattle.lists.proofs.AnyLaws.{any_none, none_any}
use Rattle.lists.proofs.MapLaws.{in_map, of_map}
use Rattle.lists.proofs.SortedLaws.{of-sorted, in-sorted, sorted-ascending, ascending-once, position-small, at_position, position_at}
use Rattle.lists.proofs.MemberLaws.{get_d-in}
use Rattle.lists.proofs.TestLaws.{either, not-true, and_left, and_right, and_both}
use Rattle.joined.specs.Joined.{Joined, Joins, Inside}
use Rattle.joined.specs.Tree.{TreeOn}
use Rattle.joined.specs.OneTree.{Point, OneTree, Simple}
use Rattle.joined.specs.Table.{merged_by, Below}
use Rattle.joined.proofs.JoinedLaws.{one, between, carried, firsts, seconds}
use Rattle.joined.proofs.TableLaws.{merged-joined, joined-merged}
use Rattle.joined.proofs.OneTreeLaws.{one-tree}
use Rattle.plane.specs.declared.Place.{Place}
use Rattle.plane.specs.Place.{place, before}
use Rattle.plane.proofs.PlaceOrder.{place-order, place_same}
use Rattle.forest.specs.Edges.{from, entries}
use Rattle.forest.proofs.EdgeLaws.{length_from, get_d-from}
use Rattle.bought.specs.Edges.{Edge, ends_of, points_of}
use Rattle.bought.specs.Verdict.{end_numbers, one_group, is_tree}
use Rattle.bought.proofs.EdgeLaws.{in-ends, of-ends}

-- Entries of a table

in-entries : (t : List ℕ) (k n j : ℕ) → j < n → get_or t (k + j) 0 ∈ entries t k n
unfolding entries
in-entries t k zero j h = absurd (let z : ⊥ = omega arith in z)
in-entries t k (suc n) zero h = let e : k + 0 ≡ k = omega arith in here (ap (λ (i : ℕ). get_or t i 0) e)
in-entries t k (suc n) (suc j) h =
    let e : k + suc j ≡ suc k + j = omega arith in
    let m : get_or t (k + suc j) 0 ∈ entries t (suc k) n = rw e (in-entries t (suc k) n j (omega arith)) in
    there m

of-entries : (t : List ℕ) (k n y : ℕ) → y ∈ entries t k n → (j : ℕ) × ((j < n) × (y ≡ get_or t (k + j) 0))
unfolding entries
of-entries t k zero y m = elim m [ ]
of-entries t k (suc n) y m =
    either (λ e. let z : k ≡ k + 0 = omega arith in (0, (omega arith, e ∙ ap (λ (i : ℕ). get_or t i 0) z)))
    (λ i.
    let r = of-entries t (suc k) n y i in
    let e : suc k + r.0 ≡ k + suc r.0 = omega arith in
    (suc r.0, (omega (arith, r.1.0), r.1.1 ∙ ap (λ (h : ℕ). get_or t h 0) e)))
    (Memᴰ.cases_cons m)

-- one label
module _ (t : List ℕ) (n : ℕ) where
  pub one_label : one_group t n ≡ true → (x : ℕ) → x < n → get_or t x 0 ≡ get_or t 0 0
  unfolding one_group
  one_label e x h =
      let f : ℕ → Bool = λ y. not (eqb y (get_or t 0 0)) in
      let same : 0 + x ≡ x = omega arith in
      let none = any_none f (entries t 0 n) (not-true (any f (entries t 0 n)) e) (get_or t x 0) (rw same at (in-entries t 0 n x h)) in
      eqb-true (get_or t x 0) (get_or t 0 0) (not-false (eqb (get_or t x 0) (get_or t 0 0)) none)

  pub label-one : ((x : ℕ) → x < n → get_or t x 0 ≡ get_or t 0 0) → one_group t n ≡ true
  unfolding one_group
  label-one h =
      let f : ℕ → Bool = λ y. not (eqb y (get_or t 0 0)) in
      ap not (none_any f (entries t 0 n) (λ y m.
      let r = of-entries t 0 n y m in
      let same : 0 + r.0 ≡ r.0 = omega arith in
      ap not (eq-eqb y (get_or t 0 0) (r.1.1 ∙ ap (λ (i : ℕ). get_or t i 0) same ∙ h r.0 r.1.0))))

-- Points

module _ (pins : List Place) (T : List Edge) where
  abbrev X : List Place
  X = points_of pins T

  pub points-ascending : Ascending before (points_of pins T)
  unfolding points_of
  points-ascending = sorted-ascending before place-order _

  pub points-once : Once (points_of pins T)
  points-once = ascending-once before place-order (points_of pins T) points-ascending

  pub pin-point : Among pins (points_of pins T)
  unfolding points_of
  pin-point x m = in-sorted before place-order (pins ++ ends_of T) x (Memᴰ.append_left _ m)

  pub end-point : Among (ends_of T) (points_of pins T)
  unfolding points_of
  end-point x m = in-sorted before place-order (pins ++ ends_of T) x (Memᴰ.append_right pins m)

  pub points-inside : Inside (points_of pins T) T
  points-inside a b m = let r = in-ends T m in (end-point a r.0, end-point b r.1)

  -- V2: they are the pins and the ends
  pub of-points : (x : Place) → x ∈ points_of pins T → Point pins T x
  unfolding points_of
  of-points x m = either inl (λ i. inr (of-ends T i)) (Memᴰ.append_cases pins (of-sorted before (pins ++ ends_of T) x m))

  -- Numbers and places

  abbrev at : ℕ → Place
  at i = get_or X i (place (pos 0) (pos 0))

  number_small : (x : Place) → x ∈ X → position before X x < length X
  number_small x m = position-small before place-order X points-ascending x m

  at-number : (x : Place) → x ∈ X → at (position before X x) ≡ x
  at-number x m = at_position before place-order X points-ascending x (place (pos 0) (pos 0)) m

  pub numbers-below : Below (end_numbers (points_of pins T)) (length (points_of pins T)) T
  numbers-below e m = let r = points-inside e.0 e.1 m in (number_small e.0 r.0, number_small e.1 r.1)

  by-places : {i j : ℕ} → Joined (map (end_numbers X) T) i j → Joined T (at i) (at j)
  by-places = carried at (λ i j m.
      let s = of_map (end_numbers X) T m in
      let r = points-inside s.entry.0 s.entry.1 s.stands in
      between (ap at (firsts s.is) ∙ at-number s.entry.0 r.0) (ap at (seconds s.is) ∙ at-number s.entry.1 r.1)
      (one (inl s.stands)))

  by-numbers : {x y : Place} → Joined T x y → Joined (map (end_numbers X) T) (position before X x) (position before X y)
  by-numbers = carried (position before X) (λ a b m. one (inl (in_map (end_numbers X) m)))

  -- The labels

  own : (x : ℕ) → x < length X → get_or (from 0 (length X)) x 0 ≡ x
  own x h = omega (arith, get_d-from 0 (length X) x h)

  room : length X ≤ length (from 0 (length X))
  room = omega (arith, length_from 0 (length X))

  abbrev table : List ℕ
  table = merged_by (end_numbers X) T (from 0 (length X))

  pub labels_join : one_group table (length X) ≡ true → Joins X T
  labels_join e x y i k =
      let a = number_small x i in
      let b = number_small y k in
      let same = one_label table (length X) e _ a ∙ sym (one_label table (length X) e _ b) in
      between (sym (at-number x i)) (sym (at-number y k))
      (by-places (merged-joined (end_numbers X) (length X) T numbers-below (from 0 (length X)) room own _ _ a b same))

  pub join-labels : Joins X T → {p : Place} → p ∈ X → one_group table (length X) ≡ true
  join-labels j {p} i = label-one table (length X) first
    where
      -- the number of a point is that of a place, so any two labels are one
      label : (x : ℕ) → x < length X → (y : ℕ) → y < length X → get_or table x 0 ≡ get_or table y 0
      label x h y k =
          let d = place (pos 0) (pos 0) in
          joined-merged (end_numbers X) (length X) T numbers-below (from 0 (length X)) room own x y h k
          (between (sym (position_at before place-order X points-ascending x d h))
          (sym (position_at before place-order X points-ascending y d k))
          (by-numbers (j (at x) (at y) (get_d-in X x d h) (get_d-in X y d k))))

      first : (x : ℕ) → x < length X → get_or table x 0 ≡ get_or table 0 0
      first x h = label x h 0 (omega (arith, h))

  -- By the count

  pub tree_of : is_tree pins T ≡ true → TreeOn (points_of pins T) T
  unfolding is_tree
  tree_of e = record {
    once = points-once;
    joins = labels_join (and_right (eqb (length X) (suc (length T))) (one_group table (length X)) e);
    size = sym (eqb-true (length X) (suc (length T)) (and_left (eqb (length X) (suc (length T))) (one_group table (length X)) e));
  }

  pub of_tree : {p : Place} → p ∈ pins → TreeOn (points_of pins T) T → is_tree pins T ≡ true
  unfolding is_tree
  of_tree {p} m t =
      and_both (eqb (length X) (suc (length T))) (one_group table (length X)) (eq-eqb (length X) (suc (length T)) (sym t.size))
      (join-labels t.joins (pin-point p m))

  -- one tree as R20 has it, its edges each once, is a tree by the count
  pub tree-counted : {p : Place} → p ∈ pins → OneTree pins T → Simple T → TreeOn (points_of pins T) T
  tree-counted {p} m tree simple = one-tree place_same points-inside simple wide points-once (pin-point p m)
    where
      narrow : (x : Place) → Point X T x → Point pins T x
      narrow x (inl i) = of-points x i
      narrow x (inr l) = inr l

      wide : OneTree X T
      wide x y i k n =
          let w = tree x y (narrow x i) (narrow y k) n in
          record { free = w.free; only = w.only }
