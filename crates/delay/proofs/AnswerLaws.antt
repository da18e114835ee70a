-- What the code answers by numbers of points is what the rules say of the tree's edges, its pins and their loads.
-- Assumes nothing.
use mathlib.Core.Path.{◌≡◌, refl, sym, ap, ◌∙◌}
use mathlib.Core.Bool.{Bool, true, false, ◌||◌}
use mathlib.Core.List.Memᴰ
use mathlib.Core.List.{List, [], ◌∷◌, map}
use Prim.Native.Nat.{ℕ, zero, suc, ◌+◌, ◌≤◌, ◌<◌}
use native.Mathlib.Omega.{arith}
use lib.IntN.{ℤ}
use lib.Dec.{eqb, ltb}
use lib.ListN.{get_or, replicate, length-replicate, get_or-replicate}
use lib.Ieee.{Float, nan}
use borrow.Author.Tests.{ltb-true, ltb-false}
use Rattle.lists.specs.Any.{any}
use Rattle.lists.specs.Member.{◌∈◌, here, there, Among}
use Rattle.lists.specs.Sorted.{sorted, Ascending}
use Rattle.lists.proofs.AnyLaws.{any_none}
use Rattle.lists.proofs.TestLaws.{by, differ, either, and_right, and_both}
use Rattle.lists.proofs.MapLaws.{in_map, of_map, map-then}
use Rattle.lists.proofs.SortedLaws.{of-sorted, in-sorted, sorted-ascending, ascending-same}
use Rattle.plane.specs.declared.Place.{Place}
use Rattle.plane.specs.Place.{before, same_place}
use Rattle.plane.specs.Distance.{distance}
use Rattle.plane.specs.Flat.{place_at}
use Rattle.plane.specs.Rank.{InOrder}
use Rattle.plane.proofs.PlaceLaws.{same_true, same_refl}
use Rattle.plane.proofs.PlaceOrder.{place-order}
use Rattle.tree.specs.Table.{tree_bound, Within}
use Rattle.tree.specs.Places.{Ranked}
use Rattle.tree.specs.Edges.{table_edges}
use Rattle.tree.proofs.EdgeLaws.{edges-count}
use Rattle.exchanges.proofs.OpenedLaws.{seek-before, seek_hit}
use Rattle.floats.specs.declared.Technology.{Technology}
use Rattle.floats.specs.Float as float
use Rattle.elmore.specs.Rooted.{Branches, Every, rooted, hanging}
use Rattle.elmore.specs.Elmore.{delays, delay_in}
use Rattle.floats.specs.Mark.{marked, is_pin, pins_from, marks_from}
use Rattle.delay.specs.Answer.{delay_of, marks_of}
use Rattle.elmore.specs.Table.{hung, apart_in, load_in}
use Rattle.delay.specs.Table.{is_driver, driver_in, table_from}
use Rattle.elmore.proofs.CarriedLaws.{delay_in-renamed, delays-renamed, delays-every, stored-read}
use Rattle.elmore.proofs.PlaceLaws.{same_number, hung-places, hung-small}

-- Searches for a place

of-any : (q : Place) (l : List Place) → any (same_place q) l ≡ true → q ∈ l
unfolding any
of-any q [] e = differ e refl
of-any q (x ∷ l) e =
    by (same_place q x) (λ s. here (same_true q x s)) (λ s. there (of-any q l (ap (λ (b : Bool). b || any (same_place q) l) (sym s) ∙ e)))

pub in-any : (q : Place) (l : List Place) → q ∈ l → any (same_place q) l ≡ true
in-any q l m = by (any (same_place q) l) (λ t. t) (λ t. differ (same_refl q) (any_none (same_place q) l t q m))

-- The numbers of the pins

pins-hit : (pin : List ℕ) (i n : ℕ) → is_pin pin i ≡ true → pins_from pin i (suc n) ≡ i ∷ pins_from pin (i + 1) n
unfolding pins_from
pins-hit pin i n e = rw (pins_from, e) refl

pins-miss : (pin : List ℕ) (i n : ℕ) → is_pin pin i ≡ false → pins_from pin i (suc n) ≡ pins_from pin (i + 1) n
unfolding pins_from
pins-miss pin i n e = rw (pins_from, e) refl

record PinNumber (pin : List ℕ) (i n k : ℕ) : Type 0 where
  pub low : i ≤ k
  pub high : k < i + n
  pub pinned : is_pin pin k ≡ true

of-pins : (pin : List ℕ) (n i k : ℕ) → k ∈ pins_from pin i n → PinNumber pin i n k
unfolding pins_from
of-pins pin zero i k m = elim m [ ]
of-pins pin (suc n) i k m =
    by (is_pin pin i)
    (λ e. either (λ z. record { low = omega arith; high = omega arith; pinned = ap (is_pin pin) z ∙ e })
    (λ j. further (of-pins pin n (i + 1) k j)) (Memᴰ.cases_cons (rw (pins-hit pin i n e) at m)))
    (λ e. further (of-pins pin n (i + 1) k (rw (pins-miss pin i n e) at m)))
  where
    further : PinNumber pin (i + 1) n k → PinNumber pin i (suc n) k
    further r = record { low = omega (arith, r.low); high = omega (arith, r.high); pinned = r.pinned }

in-pins : (pin : List ℕ) (n i k : ℕ) → i ≤ k → k < i + n → is_pin pin k ≡ true → k ∈ pins_from pin i n
unfolding pins_from
in-pins pin zero i k l h e = absurd (let z : ⊥ = omega arith in z)
in-pins pin (suc n) i k l h e =
    by (ltb i k)
    (λ t.
    let more = in-pins pin n (i + 1) k (omega (arith, ltb-true i k t)) (omega arith) e in
    by (is_pin pin i) (λ p. rw (pins-hit pin i n p) (there more)) (λ p. rw (pins-miss pin i n p) more))
    (λ t. let z : k ≡ i = omega (arith, ltb-false i k t) in rw (pins-hit pin i n (rw (← z) e)) (here z))

-- Tables in order, with the pins of a list marked, and their loads

module _ (pts : List ℤ) (ks : List ℕ) (N e : ℕ) (order : InOrder pts N) (within : Within N ks) (ranked : Ranked ks e)
    (few : N ≤ tree_bound) where
  abbrev at : ℕ → Place
  at i = place_at pts i

  abbrev edges : List (Place × Place)
  edges = table_edges pts ks e

  module _ (loads : List ℕ) (load : Place → ℕ) (loaded : (i : ℕ) → i < N → get_or loads i 0 ≡ load (at i)) (t : Technology) where
    -- the table holds the delay of each point
    pub table-delay : (d q : ℕ) → d < N → q < N → get_or (table_from pts ks e loads t d) q nan ≡ delay_of edges load t (at d) (at q)
    unfolding table_from delay_of rooted
    table-delay d q hd hq =
        stored-read list (replicate tree_bound float.zero) q (rw (length-replicate tree_bound float.zero) (omega (arith, hq, few)))
        ∙ ap (λ (x : Float). delay_in eqb q x list) (get_or-replicate tree_bound q float.zero nan (omega (arith, hq, few)))
        ∙ delay_in-renamed at eqb same_place q float.zero list
        (λ x m. sym (same_number pts ks N e order within ranked few x.0 q (small x m) hq))
        ∙ ap (delay_in same_place (at q) float.zero)
        (delays-renamed at (apart_in pts) distance (λ a b. refl) (load_in loads) load t (λ c. c < N) loaded tree every d float.zero
        ∙ ap (delays distance load t (at d) float.zero)
        (hung-places pts ks N e order within ranked few e d d hd hd
        ∙ ap (λ (n : ℕ). hanging edges n (at d) (at d)) (sym (edges-count pts ks e))))
      where
        tree : Branches ℕ
        tree = hung ks e e d d

        every : Every (λ c. c < N) tree
        every = hung-small pts ks N e order within ranked few e d d

        list : List (ℕ × Float)
        list = delays (apart_in pts) (load_in loads) t d float.zero tree

        small : (x : ℕ × Float) → x ∈ list → x.0 < N
        small = delays-every (λ c. c < N) (apart_in pts) (load_in loads) t tree every d float.zero

    module _ (pin : List ℕ) (pins : List Place) (marks : (i : ℕ) → i < N → is_pin pin i ≡ any (same_place (at i)) pins)
        (among : (q : Place) → q ∈ pins → (i : ℕ) × ((i < N) × (q ≡ at i))) where
      pins-ascending : (n i : ℕ) → i + n ≤ N → Ascending before (map at (pins_from pin i n))
      unfolding pins_from
      pins-ascending zero i b = tt
      pins-ascending (suc n) i b =
          let more = pins-ascending n (i + 1) (omega arith) in
          by (is_pin pin i)
          (λ p. rw (pins-hit pin i n p) (
            λ y m.
                let r = of_map at (pins_from pin (i + 1) n) m in
                let k = of-pins pin n (i + 1) r.entry r.stands in
                ap (before (at i)) r.is ∙ order i r.entry (omega (arith, k.low)) (omega (arith, k.high)),
            more,
          ))
          (λ p. rw (pins-miss pin i n p) more)

      -- the marked points are the pins in the order of places
      pub pins-places : map at (pins_from pin 0 N) ≡ sorted before pins
      pins-places =
          ascending-same before place-order (map at (pins_from pin 0 N)) (sorted before pins) (pins-ascending N 0 (omega arith))
          (sorted-ascending before place-order pins) forth back
        where
          forth : Among (map at (pins_from pin 0 N)) (sorted before pins)
          forth q m =
              let r = of_map at (pins_from pin 0 N) m in
              let k = of-pins pin N 0 r.entry r.stands in
              in-sorted before place-order pins q
              (Memᴰ.cast r.is (of-any (at r.entry) pins (sym (marks r.entry (omega (arith, k.high))) ∙ k.pinned)))

          back : Among (sorted before pins) (map at (pins_from pin 0 N))
          back q m =
              let i = of-sorted before pins q m in
              let r = among q i in
              Memᴰ.cast r.1.1
              (in_map at
              (in-pins pin N 0 r.0 (omega arith) (omega (arith, r.1.0))
              (marks r.0 r.1.0 ∙ in-any (at r.0) pins (Memᴰ.cast (sym r.1.1) i))))

      -- so the marks of the table are those of the rules
      pub marks-places : (d : ℕ) → d < N → marks_from (table_from pts ks e loads t d) pin 0 N ≡ marks_of edges load t (at d) pins
      unfolding marks_from marks_of
      marks-places d hd =
          sym (map-then at (λ q. marked (delay_of edges load t (at d) q)) (λ i. marked (get_or (table_from pts ks e loads t d) i nan))
          (pins_from pin 0 N)
          (λ i m. ap marked (sym (table-delay d i hd (omega (arith, (of-pins pin N 0 i m).high))))))
          ∙ ap (map (λ q. marked (delay_of edges load t (at d) q))) pins-places

      -- the driver, where it is a pin, is found, and its marks are those of the rules
      module _ (driver : Place) (stands : any (same_place driver) pins ≡ true) where
        abbrev number : ℕ
        number = driver_in pts pin N driver

        pub driver-found : number < N
        unfolding is_driver
        driver-found =
            let m = of-any driver pins stands in
            let r = among driver m in
            let here-pin : is_pin pin r.0 ≡ true = marks r.0 r.1.0 ∙ in-any (at r.0) pins (Memᴰ.cast (sym r.1.1) m) in
            let here_place : same_place (at r.0) driver ≡ true = ap (same_place (at r.0)) r.1.1 ∙ same_refl (at r.0) in
            by (ltb number N) (λ b. ltb-true number N b)
            (λ b.
            differ (and_both (is_pin pin r.0) (same_place (at r.0) driver) here-pin here_place)
            (seek-before (is_driver pts pin driver) N 0 r.0 (omega arith) (omega (arith, r.1.0, ltb-false number N b))))

        driver-at : at number ≡ driver
        unfolding is_driver
        driver-at =
            same_true (at number) driver
            (and_right (is_pin pin number) (same_place (at number) driver)
            (seek_hit (is_driver pts pin driver) N 0 (omega (arith, driver-found))))

        pub driver-marks : marks_from (table_from pts ks e loads t number) pin 0 N ≡ marks_of edges load t driver pins
        driver-marks = marks-places number driver-found ∙ ap (λ (q : Place). marks_of edges load t q pins) driver-at
