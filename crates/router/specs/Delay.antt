-- What is promised of the delay to each pin. What delays are stands in `delay` (specs/Answer.antt).
use Rattle.std.specs.Prelude.{◌≡◌, true, false, List, ℕ, ◌≤◌, ℤ, length, Float}
use Rattle.lists.specs.Any.{any}
use Rattle.lists.specs.Member.{◌∈◌}
use Rattle.lent.specs.Told.{given}
use Rattle.lent.specs.Over.{after}
use Rattle.plane.specs.declared.Place.{Place}
use Rattle.net.specs.declared.Weighing.{Weighing}
use Rattle.net.specs.Pins.{pin_count, pin_places}
use Rattle.net.specs.Net.{net_of}
use Rattle.checks.specs.Check.{checked}
use Rattle.slide.specs.Slide.{tree_points}
use Rattle.floats.specs.declared.Technology.{Technology}
use Rattle.floats.specs.Mark.{is_mark, finites, usable}
use Rattle.delay.specs.Promise.{Timed}
use Rattle.answers.specs.Delay.{loads_of, delays_of, pin_delays}
use Rattle.answers.specs.Refined.{laid_of}

-- What is promised of the delays of an allowed net; the check is the only premise (`promised-delay`, proofs/DelayLaws.antt)
pub record PromisedDelay (w : Weighing) (pins macros : List ℤ) : Type 0 where
  -- D1b: a usable technology and a driver that is a pin are given the delays, unless one is not finite
  pub delay-given : (driver : Place) (t : Technology) (room : ℕ) → pin_count pins ≤ room → usable t ≡ true → driver ∈ pin_places pins
      → any is_mark (delays_of w pins macros driver t) ≡ false → pin_delays w pins macros driver t room ≡ given (pin_count pins)
  -- and one for each pin
  pub as_many : (driver : Place) (t : Technology) → any is_mark (delays_of w pins macros driver t) ≡ false
      → length (finites (delays_of w pins macros driver t)) ≡ pin_count pins
  -- Y2: each pin and each end of an edge hangs once from the driver, and none is left out;  Y5: each child's delay is made of its parent's;
  -- Y6: the driver's own is 0
  pub timed : (driver : Place) → driver ∈ pin_places pins → (t : Technology)
      → Timed (tree_points (net_of w pins macros) (laid_of w pins macros)) (laid_of w pins macros) (loads_of pins) t driver

-- D2b, Y8: what two calls have in common that have the same weights, driver and technology, and lists with the same entries in another
-- order (`delay-order`, promises/proofs/DelayOrder.antt)
pub record SameDelays (w : Weighing) (pins pins' macros macros' : List ℤ) (driver : Place) (t : Technology) : Type 0 where
  pub answer : (room : ℕ) → pin_delays w pins macros driver t room ≡ pin_delays w pins' macros' driver t room
  pub delays : (room : ℕ) (lent : List Float)
      → after (pin_delays w pins macros driver t room) (finites (delays_of w pins macros driver t)) lent
      ≡ after (pin_delays w pins' macros' driver t room) (finites (delays_of w pins' macros' driver t)) lent
