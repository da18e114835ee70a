-- The delay to each pin among the operations: rules C38 to C40, C85 and C86. What delays are stands in `delay` (specs/Answer.antt).
use Rattle.std.specs.Prelude.{List, ℕ, ℤ}
use Rattle.lent.specs.Told.{Told, only_if}
use Rattle.plane.specs.declared.Place.{Place}
use Rattle.net.specs.declared.Weighing.{Weighing}
use Rattle.net.specs.Pins.{pin_places, pin_entries}
use Rattle.checks.specs.Check.{checked}
use Rattle.floats.specs.declared.Technology.{Technology}
use Rattle.floats.specs.Mark.{Delay}
use Rattle.delay.specs.Load.{load_of}
use Rattle.delay.specs.Answer.{marks_of, delay_answer}
use Rattle.answers.specs.Refined.{laid_of}

-- Y4: the load of a point of the tree
abbrev pub loads_of : List ℤ → Place → ℕ
loads_of pins q = load_of (pin_entries pins) q

-- C86: for each pin, in the order of places, its delay along the refined tree or the mark that it is not finite
unfoldable pub delays_of : Weighing → List ℤ → List ℤ → Place → Technology → List Delay
delays_of w pins macros driver t = marks_of (laid_of w pins macros) (loads_of pins) t driver (pin_places pins)

-- C85: 21, fewer than m numbers; 38, 39, 40
unfoldable pub delay_given : Weighing → List ℤ → List ℤ → Place → Technology → ℕ → Told ℕ
delay_given w pins macros driver t room = delay_answer (laid_of w pins macros) (loads_of pins) (pin_places pins) t driver room

-- C85: 11 to 18, then 21, then 38 to 40
unfoldable pub pin_delays : Weighing → List ℤ → List ℤ → Place → Technology → ℕ → Told ℕ
pin_delays w pins macros driver t room = only_if (checked w pins macros) (delay_given w pins macros driver t room)
