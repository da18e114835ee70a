-- Y8, D2b: delays are the same for every order of the lists. The tree is the same, loads go by places, of which no two pins have one, and
-- the pins are given in the order of places.
-- Assumes nothing.
use mathlib.Core.Path.{◌≡◌, refl, sym, ap, ap₂, ◌∙◌}
use mathlib.Core.Bool.{Bool}
use mathlib.Core.HLevel.{hedberg}
use mathlib.Core.Logic.{∥∥₁_elim}
use mathlib.Core.List.Permᴰ
use mathlib.Core.List.{List, map}
use Prim.Native.Nat.{ℕ}
use lib.IntN.{ℤ}
use lib.ListN.{length}
use lib.Ieee.{Float}
use Rattle.lists.specs.Any.{any}
use Rattle.lists.specs.Member.{Once}
use Rattle.lists.specs.Sorted.{sorted}
use Rattle.lists.proofs.AnyOrder.{any-perm, length-perm}
use Rattle.lists.proofs.OrderLaws.{number-order}
use Rattle.lists.proofs.PermLaws.{perm-among, order_same, order-lists-set}
use Rattle.lent.specs.Told.{Told, refused, given, only_if}
use Rattle.lent.specs.Over.{after}
use Rattle.lent.proofs.AfterLaws.{after-refused}
use Rattle.plane.specs.declared.Place.{Place}
use Rattle.plane.specs.Place.{before, same_place}
use Rattle.plane.proofs.PlaceOrder.{place-order}
use Rattle.net.specs.declared.Net.{Net as Counts}
use Rattle.net.specs.declared.Weighing.{Weighing}
use Rattle.net.specs.Net.{net_of}
use Rattle.net.specs.Pins.{pin_places, pin_entries}
use Rattle.net.specs.Allowed.{Allowed}
use Rattle.net.specs.Order.{SamePins, SamePlaces, SameMacros}
use Rattle.net.proofs.PinLaws.{entry-places}
use Rattle.checks.specs.Check.{checked}
use Rattle.checks.proofs.GivenLaws.{given-allowed}
use Rattle.checks.proofs.CheckOrder.{check-order, same-places}
use Rattle.terminal.proofs.NumberLaws.{apart-once}
use Rattle.floats.specs.declared.Technology.{Technology}
use Rattle.floats.specs.Mark.{Delay}
use Rattle.floats.specs.Mark.{marked, finites}
use Rattle.delay.specs.Answer.{delay_of, marks_of, delayed, delay_answer}
use Rattle.delay.proofs.LoadLaws.{loads-same}
use Rattle.delay.proofs.TimedLaws.{same-sorted, marks_of-same}
use Rattle.answers.specs.Refined.{laid_of}
use Rattle.answers.specs.Delay.{loads_of, delays_of, delay_given, pin_delays}
use Rattle.answers.proofs.AnswerLaws.{only-refused}
use Rattle.router.specs.Delay.{SameDelays}
use Rattle.promises.proofs.EveryOrder.{same-laid}

-- no two pins of an allowed net are at one place
pub places-once : (w : Weighing) (pins macros : List ℤ) → Allowed (net_of w pins macros) →
    Once (map (λ (e : Place × ℤ). e.0) (pin_entries pins))
places-once w pins macros a = rw (entry-places pins) (apart-once (pin_places pins) a.pins-apart)

module _ (w : Weighing) (pins pins' macros macros' : List ℤ) (p : SamePins pins pins') (q : SameMacros macros macros') (driver : Place)
    (t : Technology) where
  places : SamePlaces pins pins'
  places = same-places pins pins' p

  same_check : checked w pins macros ≡ checked w pins' macros'
  same_check = check-order w pins pins' macros macros' places q

  -- Refused

  refused-both : (n : ℕ) → checked w pins macros ≡ refused n → SameDelays w pins pins' macros macros' driver t
  unfolding pin_delays
  refused-both n r = record {
    answer = λ room. only-refused _ _ n r ∙ sym (only-refused _ _ n (sym same_check ∙ r));
    delays = λ room lent.
        sym (after-refused _ _ lent n (only-refused _ _ n r)) ∙ after-refused _ _ lent n (only-refused _ _ n (sym same_check ∙ r));
  }

  -- Allowed

  module _ (net : Counts) (g : checked w pins macros ≡ given net) where
    a : Allowed (net_of w pins macros)
    a = (given-allowed w pins macros g).1

    b : Allowed (net_of w pins' macros')
    b = (given-allowed w pins' macros' (sym same_check ∙ g)).1

    same-order : sorted before (pin_places pins) ≡ sorted before (pin_places pins')
    same-order =
        ∥∥₁_elim places.order (order-lists-set place-order _ _) λ d.
        same-sorted (pin_places pins) (pin_places pins') (perm-among d) (perm-among (Permᴰ.symm d))

    same_load : (x : Place) → loads_of pins x ≡ loads_of pins' x
    same_load x =
        ∥∥₁_elim p.order (hedberg (order_same number-order) _ _) λ d.
        loads-same (pin_entries pins) (pin_entries pins') (places-once w pins macros a) (places-once w pins' macros' b)
        (perm-among d) (perm-among (Permᴰ.symm d)) x

    same-delays : delays_of w pins macros driver t ≡ delays_of w pins' macros' driver t
    unfolding delays_of marks_of
    same-delays =
        marks_of-same (laid_of w pins macros) (laid_of w pins macros) (λ x m. m) (λ x m. m) refl (loads_of pins) (loads_of pins') same_load t
        driver (pin_places pins) (pin_places pins) (λ x m. m) (λ x m. m)
        ∙ ap₂ (λ (es : List (Place × Place)) (l : List Place). map (λ x. marked (delay_of es (loads_of pins') t driver x)) l)
        (same-laid w pins pins' macros macros' places q net g) same-order

    same-given : (room : ℕ) → delay_given w pins macros driver t room ≡ delay_given w pins' macros' driver t room
    unfolding delay_given delay_answer delays_of
    same-given room =
        ap (λ (n : ℕ). delayed room n t (any (same_place driver) (pin_places pins)) (delays_of w pins macros driver t))
        (length-perm _ _ places.order)
        ∙ ap₂ (λ (f : Bool) (l : List Delay). delayed room (length (pin_places pins')) t f l)
        (any-perm (same_place driver) _ _ places.order) same-delays

    same-told : (room : ℕ) → pin_delays w pins macros driver t room ≡ pin_delays w pins' macros' driver t room
    unfolding pin_delays
    same-told room = ap₂ only_if same_check (same-given room)

    given_both : SameDelays w pins pins' macros macros' driver t
    given_both = record {
      answer = same-told;
      delays = λ room lent. ap₂ (λ (z : Told ℕ) (l : List Delay). after z (finites l) lent) (same-told room) same-delays;
    }

  pub delay-order : SameDelays w pins pins' macros macros' driver t
  delay-order = at (checked w pins macros) refl
    where
      at : (z : Told Counts) → checked w pins macros ≡ z → SameDelays w pins pins' macros macros' driver t
      at (refused n) r = refused-both n r
      at (given net) g = given_both net g
