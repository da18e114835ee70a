-- `router::allowed::delay` meets its contract: 21, 38 and 39 in the order of the rules, then what the delays along the refined tree say.
-- Assumes nothing.
use Rattle.std.proofs.Common.{◌≡◌, ◌∙◌, ℕ, ◌≤◌, ◌<◌, ◌^◌, ℤ, pos, refl, sym, ap, ap₂, arith, length, to_z, w64}
use Rattle.lent.specs.Told.{Told}
use Rattle.lent.specs.Over.{after}
use Rattle.net.specs.Answer.{number, told_by}
use Rattle.net.specs.Net.{handed}
use Rattle.net.specs.Pins.{pin_places}
use Rattle.net.proofs.PinLaws.{length-pins}
use Rattle.floats.specs.Mark.{finites}
use Rattle.delay.specs.Answer.{unless_marked, delay_answer, told_delays}
use Rattle.delay.proofs.ToldLaws.{delayed-space, delayed-technology, delayed-driver, delayed-passed}
use Rattle.made.proofs.CountedLaws.{as-pins}
use Rattle.answers.specs.Delay.{delays_of, delay_given}
use Rattle.router.proofs.CallLaws.{gives-refused}
use Rattle.router.proofs.allowed.delay.Goals as goal

pub returns-then-delays-net : goal.returns-then-delays-net
unfolding delay_given delay_answer told_by number
returns-then-delays-net c =
    let pins-are = as-pins c.requires ∙ sym (length-pins c.args.pins.now) in
    let short : length c.args.delays.now < length (pin_places c.args.pins.now) = omega (arith, c.if-delays-net.true, pins-are) in
    gives-refused refl (delayed-space _ _ _ _ _ short)

pub returns-then-not-usable : goal.returns-then-not-usable
unfolding delay_given delay_answer told_by number
returns-then-not-usable c =
    let pins-are = as-pins c.requires ∙ sym (length-pins c.args.pins.now) in
    let enough : length (pin_places c.args.pins.now) ≤ length c.args.delays.now = omega (arith, c.if-delays-net.false, pins-are) in
    gives-refused refl (delayed-technology _ _ _ _ _ enough (sym c.is_usable-usable.ensures ∙ c.if-not-usable.true))

pub returns-then-not-found : goal.returns-then-not-found
unfolding delay_given delay_answer told_by number
returns-then-not-found c =
    let pins-are = as-pins c.requires ∙ sym (length-pins c.args.pins.now) in
    let enough : length (pin_places c.args.pins.now) ≤ length c.args.delays.now = omega (arith, c.if-delays-net.false, pins-are) in
    gives-refused refl
    (delayed-driver _ _ _ _ _ enough (sym c.is_usable-usable.ensures ∙ c.if-not-usable.false)
    (sym c.is_pin-found.ensures ∙ c.if-not-found.true))

pub time-requires : goal.time-requires
time-requires c =
    record { counted = c.requires; pins_in_bounds = (c.if-delays-net.false, sym c.is_pin-found.ensures ∙ c.if-not-found.false) }

pub returns : goal.returns
unfolding delay_given delay_answer delays_of
returns c =
    let a = c.args in
    let pins-are = as-pins c.requires ∙ sym (length-pins a.pins.now) in
    let enough : length (pin_places a.pins.now) ≤ length a.delays.now = omega (arith, c.if-delays-net.false, pins-are) in
    let marks = delays_of (handed a.net.weights) a.pins.now a.macros.now a.driver a.t in
    let said : told_delays c.time.result ≡ delay_given (handed a.net.weights) a.pins.now a.macros.now a.driver a.t (length a.delays.now) =
    c.time.ensures.result_value
    ∙ ap (λ (m : ℕ). unless_marked m marks) pins-are
    ∙ sym (delayed-passed _ _ _ _ marks enough (sym c.is_usable-usable.ensures ∙ c.if-not-usable.false)
    (sym c.is_pin-found.ensures ∙ c.if-not-found.false)) in
    record {
      answer = said;
      list = c.time.ensures.delays_after ∙ ap (λ (z : Told ℕ). after z (finites marks) a.delays.now) said;
    }
