-- Numbers of vertices: number and vertex undo each other, and the order of numbers is the order of places; the graph by numbers read edge
-- by edge; the pins by numbers, of which there are as many as pins, each once.
-- Assumes nothing.
use mathlib.Core.Path.{◌≡◌, refl, sym, ap, ◌∙◌}
use mathlib.Core.Bool.{true, false}
use mathlib.Core.List.{List, [], ◌∷◌, map}
use Prim.Native.Nat.{ℕ, ◌<◌}
use native.Mathlib.Omega.{arith}
use borrow.Author.Tests.{ltb-true, ltb-false}
use lib.Dec.{ltb}
use lib.ListN.{length, drop, get_or, replicate, length-map, get_or-append}
use Rattle.lists.specs.Any.{NoTwo}
use Rattle.lists.specs.Member.{◌∈◌, Once}
use Rattle.lists.specs.Sorted.{sorted, Ascending}
use Rattle.lists.proofs.TestLaws.{by, differ}
use Rattle.lists.proofs.MemberLaws.{get_d-in, once-length}
use Rattle.lists.proofs.MapLaws.{in_map, of_map, get_d_map, map-once}
use Rattle.lists.proofs.SortedLaws.{of-sorted, in-sorted, length-sorted, sorted-ascending, ascending-once, position-small, at_position}
use Rattle.lists.proofs.SortedLaws.{position_at}
use Rattle.lent.specs.Over.{over}
use Rattle.plane.specs.declared.Place.{Place}
use Rattle.plane.specs.Place.{before, same_place}
use Rattle.plane.proofs.PlaceLaws.{same_refl}
use Rattle.plane.proofs.PlaceOrder.{place-order}
use Rattle.plane.specs.declared.Weights.{Weights}
use Rattle.plane.specs.Cost.{cost}
use Rattle.forest.specs.Bounds.{edge_bound}
use Rattle.forest.specs.Edges.{one, two, len}
use Rattle.sorted.proofs.NumberLaws.{ascending-at}
use Rattle.terminal.specs.Number.{number_of, vertex_at, edge_at, table, numbered, pin_numbers}

-- Vertices

module _ (vs : List Place) where
  pub vertex-in : (i : ℕ) → i < length vs → vertex_at vs i ∈ vs
  vertex-in i h = get_d-in vs i _ h

  module _ (ascending : Ascending before vs) where
    pub number_small : (p : Place) → p ∈ vs → number_of vs p < length vs
    number_small p m = position-small before place-order vs ascending p m

    pub vertex-of-number : (p : Place) → p ∈ vs → vertex_at vs (number_of vs p) ≡ p
    vertex-of-number p m = at_position before place-order vs ascending p _ m

    pub number-of-vertex : (i : ℕ) → i < length vs → number_of vs (vertex_at vs i) ≡ i
    number-of-vertex i h = position_at before place-order vs ascending i _ h

    -- places with one number are one
    pub number-one : (p q : Place) → p ∈ vs → q ∈ vs → number_of vs p ≡ number_of vs q → p ≡ q
    number-one p q i j e = sym (vertex-of-number p i) ∙ ap (vertex_at vs) e ∙ vertex-of-number q j

    -- the order of numbers is the order of places
    pub vertex-order : (i j : ℕ) → i < length vs → j < length vs → before (vertex_at vs i) (vertex_at vs j) ≡ ltb i j
    vertex-order i j h k =
        by (ltb i j)
        (λ e. rw e (ascending-at before vs ascending i j _ (ltb-true i j e) k))
        (λ e.
        rw e
        (by (ltb j i)
        (λ f. turned (ascending-at before vs ascending j i _ (ltb-true j i f) h))
        (λ f. same (omega (arith, ltb-false i j e, ltb-false j i f)))))
      where
        turned : before (vertex_at vs j) (vertex_at vs i) ≡ true → before (vertex_at vs i) (vertex_at vs j) ≡ false
        turned b =
            by (before (vertex_at vs i) (vertex_at vs j))
            (λ c. differ (place-order.along _ _ _ b c) (place-order.never (vertex_at vs j)))
            (λ c. c)

        same : i ≡ j → before (vertex_at vs i) (vertex_at vs j) ≡ false
        same e = rw e (place-order.never (vertex_at vs j))

    pub number-order : (p q : Place) → p ∈ vs → q ∈ vs → before p q ≡ ltb (number_of vs p) (number_of vs q)
    number-order p q i j =
        let r = vertex-order (number_of vs p) (number_of vs q) (number_small p i) (number_small q j) in
        rw (vertex-of-number p i, vertex-of-number q j) at r

-- Tables

-- what is written at the front of a table is read there
pub get_d_over : {A : Type 0} (xs lent : List A) (k : ℕ) (d : A) → k < length xs → get_or (over xs lent) k d ≡ get_or xs k d
unfolding over
get_d_over xs lent k d h = get_or-append xs (drop (length xs) lent) d k h

-- a fresh table that begins with what f says of each entry
table_at : {A : Type 0} (f : A → ℕ) (es : List A) (k : ℕ) (d : A) → k < length es → get_or (table (map f es)) k 0 ≡ f (get_or es k d)
table_at f es k d h =
    get_d_over (map f es) (replicate edge_bound 0) k 0 (omega (arith, length-map es f)) ∙ get_d_map f es k d 0 h

-- The graph by numbers

module _ (w : Weights) (vs : List Place) (es : List (Place × Place)) where
  pub count_of : (numbered w vs es).count ≡ length es
  unfolding numbered
  count_of = refl

  module _ (k : ℕ) (h : k < length es) where
    pub one_of : one (numbered w vs es) k ≡ number_of vs (edge_at es k).0
    unfolding numbered
    one_of = table_at (λ e. number_of vs e.0) es k _ h

    pub two-of : two (numbered w vs es) k ≡ number_of vs (edge_at es k).1
    unfolding numbered
    two-of = table_at (λ e. number_of vs e.1) es k _ h

    pub len_of : len (numbered w vs es) k ≡ cost w (edge_at es k).0 (edge_at es k).1
    unfolding numbered
    len_of = table_at (λ e. cost w e.0 e.1) es k _ h

-- The pins by numbers

-- pins at different places stand once each
pub apart-once : (ps : List Place) → NoTwo same_place ps → Once ps
apart-once [] n = tt
apart-once (p ∷ ps) n = (λ m. differ (same_refl p) (n.0 p m), apart-once ps n.1)

-- in order they are as many
sorted-count : (ps : List Place) → NoTwo same_place ps → length (sorted before ps) ≡ length ps
sorted-count ps n =
    omega (arith, length-sorted before ps, once-length ps (sorted before ps) (apart-once ps n) (in-sorted before place-order ps))

module _ (vs ps : List Place) where
  pub pins-count : NoTwo same_place ps → length (pin_numbers vs ps) ≡ length ps
  unfolding pin_numbers
  pins-count n = length-map (sorted before ps) (number_of vs) ∙ sorted-count ps n

  pub pin-number-in : (p : Place) → p ∈ ps → number_of vs p ∈ pin_numbers vs ps
  unfolding pin_numbers
  pin-number-in p m = in_map (number_of vs) (in-sorted before place-order ps p m)

  -- a number among them is that of a pin
  pub record PinOf (i : ℕ) : Type 0 where
    pub pin : Place
    pub stands : pin ∈ ps
    pub is : i ≡ number_of vs pin

  pub of-pin-numbers : (i : ℕ) → i ∈ pin_numbers vs ps → PinOf i
  unfolding pin_numbers
  of-pin-numbers i m =
      let r = of_map (number_of vs) (sorted before ps) m in
      record { pin = r.entry; stands = of-sorted before ps _ r.stands; is = r.is }

  module _ (ascending : Ascending before vs) (inside : (p : Place) → p ∈ ps → p ∈ vs) where
    pub pin-small : (i : ℕ) → i ∈ pin_numbers vs ps → i < length vs
    pin-small i m = let r = of-pin-numbers i m in rw r.is (number_small vs ascending r.pin (inside r.pin r.stands))

    pub pins-once : Once (pin_numbers vs ps)
    unfolding pin_numbers
    pins-once =
        map-once (number_of vs) (sorted before ps)
        (λ p q i j e. number-one vs ascending p q (inside p (of-sorted before ps p i)) (inside q (of-sorted before ps q j)) e)
        (ascending-once before place-order (sorted before ps) (sorted-ascending before place-order ps))
