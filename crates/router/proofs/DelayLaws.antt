-- The delays of an allowed net: the refined tree's tables, with those of pins and loads, are what `delay` asks for, and what it answers by
-- numbers of points is what the rules say of the refined tree's edges. And what is promised of the delays.
-- Assumes nothing.
use mathlib.Core.Path.{◌≡◌, refl, sym, ap, ◌∙◌, subst}
use mathlib.Core.Bool.{true, false}
use mathlib.Core.List.{List, [], ◌∷◌, map}
use Prim.Native.Nat.{ℕ, suc, ◌≤◌, ◌<◌}
use native.Mathlib.Omega.{arith}
use lib.IntN.{ℤ}
use lib.ListN.{length, length-map}
use Rattle.lists.specs.Any.{any}
use Rattle.lists.specs.Member.{◌∈◌, Among}
use Rattle.lists.specs.Sorted.{sorted}
use Rattle.lists.proofs.TestLaws.{differ}
use Rattle.lists.proofs.MemberLaws.{once-length}
use Rattle.lists.proofs.SortedLaws.{in-sorted, length-sorted}
use Rattle.lent.specs.Told.{given}
use Rattle.plane.specs.declared.Place.{Place}
use Rattle.plane.specs.Place.{before, same_place}
use Rattle.plane.specs.Flat.{place_at}
use Rattle.plane.proofs.PlaceOrder.{place-order}
use Rattle.net.specs.declared.Net.{Net as Counts}
use Rattle.net.specs.declared.Weighing.{Weighing}
use Rattle.net.specs.Net.{Net, net_of}
use Rattle.net.specs.Pins.{pin_count, pin_places}
use Rattle.net.specs.Allowed.{Allowed}
use Rattle.net.proofs.PinLaws.{length-pins}
use Rattle.checks.specs.Check.{checked}
use Rattle.checks.proofs.GivenLaws.{given-allowed}
use Rattle.terminal.proofs.NumberLaws.{apart-once}
use Rattle.tree.specs.Table.{tree_bound, tree}
use Rattle.tree.specs.Places.{points_of}
use Rattle.tree.proofs.ListingLaws.{of-listing}
use Rattle.exchanges.specs.Prune.{pruned}
use Rattle.refiner.specs.declared.Refined.{Refined}
use Rattle.refiner.specs.Refined.{refined, Answer}
use Rattle.refiner.specs.Promise.{Tabled}
use Rattle.refiner.proofs.RoundReady.{rounds-ready}
use Rattle.union.specs.Union.{union_of}
use Rattle.refined.specs.Ground.{ground_of}
use Rattle.refined.proofs.NetGround.{union-ready}
use Rattle.refined.proofs.NetRefined.{union-tabled}
use Rattle.slide.proofs.SlidSound.{given-sound}
use Rattle.slide.proofs.StateLaws.{first-pin}
use Rattle.floats.specs.declared.Technology.{Technology}
use Rattle.std.specs.Prelude.{Some, None}
use Rattle.floats.specs.Mark.{Delay}
use Rattle.floats.specs.Mark.{marked, is_mark, finites, usable, pins_from, marks_from}
use Rattle.delay.specs.Answer.{marks_of, delay_answer, delay_of}
use Rattle.delay.specs.Table.{Loaded, driver_in, table_from}
use Rattle.delay.proofs.ToldLaws.{delayed-passed, told-given}
use Rattle.delay.proofs.AnswerLaws.{in-any, pins-places, driver-found, driver-marks}
use Rattle.delay.proofs.TimedLaws.{timed}
use Rattle.answers.specs.Refined.{edges_in, laid_of}
use Rattle.answers.specs.Delay.{loads_of, delays_of, delay_given, pin_delays}
use Rattle.answers.proofs.AnswerLaws.{only-given}
use Rattle.results.proofs.RefinedLaws.{answer-edges}
use Rattle.router.specs.Delay.{PromisedDelay}
use Rattle.router.proofs.SlidLaws.{refined-given}

-- in order, pins at different places are as many
pub pins-sorted : {net : Net} → Allowed net → length (sorted before net.pins) ≡ length net.pins
pins-sorted {net} a =
    omega (
      arith,
      length-sorted before net.pins,
      once-length net.pins (sorted before net.pins) (apart-once net.pins a.pins-apart)
          (in-sorted before place-order net.pins),
    )

-- every pin is among the points in the refined tree's table
refined-pinned : {net : Net} → Allowed net →
    Among net.pins (points_of (refined net (ground_of net) (union_of net)).points (refined net (ground_of net) (union_of net)).count)
unfolding refined pruned
refined-pinned {net} a = (rounds-ready net (ground_of net) (length net.pins) (union_of net) (union-ready a)).0.sound.pinned

-- What the tables hold

module _ (w : Weighing) (pins macros : List ℤ) (a : Allowed (net_of w pins macros)) {pts : List ℤ} {ks : List ℕ} {r : Refined}
    (answer : Answer (net_of w pins macros) (ground_of (net_of w pins macros)) (union_of (net_of w pins macros)) pts ks r)
    {pin loads : List ℕ} (tables : Loaded pins pts r.points pin loads) (driver : Place)
    (stands : any (same_place driver) (pin_places pins) ≡ true) (t : Technology) (m room : ℕ) (count : m ≡ pin_count pins)
    (enough : m ≤ room) where
  tabled : Tabled (net_of w pins macros) (ground_of (net_of w pins macros)) (tree pts r.points ks r.edges)
  tabled = subst (Tabled (net_of w pins macros) (ground_of (net_of w pins macros))) (sym answer.whole) (union-tabled a)

  among : (q : Place) → q ∈ pin_places pins → (i : ℕ) × ((i < r.points) × (q ≡ place_at pts i))
  among q i =
      let s : Among (pin_places pins) (points_of pts r.points) =
      subst (λ z. Among (pin_places pins) (points_of z.points z.count)) (sym answer.whole) (refined-pinned a) in
      of-listing (place_at pts) r.points q (s q i)

  marked-pins : map (place_at pts) (pins_from pin 0 r.points) ≡ sorted before (pin_places pins)
  marked-pins =
      pins-places pts ks r.points r.edges tabled.ordered tabled.within tabled.ranked answer.few.0 loads (loads_of pins)
      tables.loaded t pin (pin_places pins) tables.pinned among

  pub delays-asked : ((r.points ≤ tree_bound) × ((r.edges ≤ tree_bound) × (m ≡ length (pins_from pin 0 r.points))))
      × ((m ≤ room) × (driver_in pts pin r.points driver < r.points))
  delays-asked = (
    (
      answer.few.0,
      (
        answer.few.1,
        count
            ∙ sym (length-pins pins)
            ∙ sym (pins-sorted a)
            ∙ ap length (sym marked-pins)
            ∙ length-map (pins_from pin 0 r.points) (place_at pts),
      ),
    ),
    (
      enough,
      driver-found pts ks r.points r.edges tabled.ordered tabled.within tabled.ranked answer.few.0 loads (loads_of pins)
          tables.loaded t pin (pin_places pins) tables.pinned among driver stands,
    ),
  )

  -- the marks are those of the rules
  pub delays-marks : marks_from (table_from pts ks r.edges loads t (driver_in pts pin r.points driver)) pin 0 r.points
      ≡ delays_of w pins macros driver t
  unfolding delays_of
  delays-marks =
      driver-marks pts ks r.points r.edges tabled.ordered tabled.within tabled.ranked answer.few.0 loads (loads_of pins)
      tables.loaded t pin (pin_places pins) tables.pinned among driver stands
      ∙ ap (λ (es : List (Place × Place)). marks_of es (loads_of pins) t driver (pin_places pins)) (answer-edges a answer)

-- What is promised

finites-all : (l : List Delay) → any is_mark l ≡ false → length (finites l) ≡ length l
unfolding any is_mark finites
finites-all [] e = refl
finites-all (Some d ∷ l) e = ap suc (finites-all l e)
finites-all (None ∷ l) e = differ refl e

-- a call that nothing refuses
enough : (pins : List ℤ) (es : List (Place × Place)) (driver : Place) (t : Technology) (room : ℕ) → pin_count pins ≤ room → usable t ≡ true
    → driver ∈ pin_places pins → any is_mark (marks_of es (loads_of pins) t driver (pin_places pins)) ≡ false
    → delay_answer es (loads_of pins) (pin_places pins) t driver room ≡ given (pin_count pins)
unfolding delay_answer
enough pins es driver t room h u m n =
    let marks = marks_of es (loads_of pins) t driver (pin_places pins) in
    delayed-passed room (length (pin_places pins)) t (any (same_place driver) (pin_places pins)) marks (omega (arith, h, length-pins pins)) u
    (in-any driver (pin_places pins) m)
    ∙ told-given (length (pin_places pins)) marks n
    ∙ ap given (length-pins pins)

pub promised-delay : (w : Weighing) (pins macros : List ℤ) {net : Counts} → checked w pins macros ≡ given net → PromisedDelay w pins macros
unfolding pin_delays delay_given delay_answer delays_of marks_of
promised-delay w pins macros {net} g =
    let a = (given-allowed w pins macros g).1 in
    let z = net_of w pins macros in
    record {
      delay-given = λ driver t room h u m n.
          only-given (checked w pins macros) (delay_given w pins macros driver t room) net g
          ∙ enough pins (laid_of w pins macros) driver t room h u m n;
      as_many = λ driver t n.
          finites-all (delays_of w pins macros driver t) n
          ∙ length-map (sorted before (pin_places pins)) (λ q. marked (delay_of (laid_of w pins macros) (loads_of pins) t driver q))
          ∙ pins-sorted a
          ∙ length-pins pins;
      timed = λ driver m t.
          let p = first-pin z.pins a.some-pin in
          let s = given-sound z p.0 p.1 (edges_in z) (refined-given a) in
          timed s.tree s.inside (s.pinned driver m) (loads_of pins) t;
    }
