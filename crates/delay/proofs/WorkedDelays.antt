-- Worked nets, by computation: floats compute, so that each delay is its bits. Four pins in a row, (−1, 0) to (2, 0), the second with a
-- load of 1 and the others with none, show that a child's capacitance is added to the edge's first.
-- Assumes nothing.
use mathlib.Core.Path.{◌≡◌, refl}
use mathlib.Core.Bool.{true, false, cond}
use mathlib.Core.List.{List, [], ◌∷◌}
use Prim.Native.Nat.{ℕ}
use lib.IntN.{pos, negsuc}
use lib.Ieee.{Float, nan, inf, fin, add, mul, of_int, lt}
use Rattle.lists.specs.Any.{any}
use Rattle.lists.specs.Those.{those}
use Rattle.lists.specs.Sorted.{put, sorted}
use Rattle.lent.specs.Told.{refused, given}
use Rattle.plane.specs.declared.Place.{Place}
use Rattle.plane.specs.Place.{place, before, same_place}
use Rattle.plane.specs.Distance.{apart, distance}
use Rattle.floats.specs.declared.Technology.{Technology}
use Rattle.floats.specs.Float.{zero, finite}
use Rattle.elmore.specs.Rooted.{sprout, neighbours, children, hanging, rooted}
use Rattle.elmore.specs.Elmore.{technology, gathered, delays, delay_in}
use Rattle.floats.specs.Mark.{marked, is_mark, fair, usable}
use Rattle.delay.specs.Answer.{delay_of, marks_of, unless_marked, delayed, delay_answer}

abbrev first : Place
first = place (negsuc 0) (pos 0)

abbrev second : Place
second = place (pos 0) (pos 0)

abbrev third : Place
third = place (pos 1) (pos 0)

abbrev fourth : Place
fourth = place (pos 2) (pos 0)

abbrev row : List (Place × Place)
row = (first, second) ∷ ((second, third) ∷ ((third, fourth) ∷ []))

abbrev pins : List Place
pins = fourth ∷ (second ∷ (first ∷ (third ∷ [])))

abbrev load : Place → ℕ
load q = cond (same_place q second) 1 0

abbrev one : Float
one = fin false 1 (pos 0)

-- the greatest float, and the least
abbrev greatest : Float
greatest = fin false 9007199254740991 (pos 971)

abbrev least : Float
least = fin false 1 (negsuc 1073)

-- everything that a worked net computes
unfoldable answer_for : Technology → Place → ℕ
unfolding delay_answer delayed unless_marked usable fair finite lt marks_of marked is_mark any sorted put before same_place delay_of delay_in delays
    gathered rooted hanging sprout children neighbours those distance apart add mul of_int
answer_for t driver = 0

-- resistance 1 and capacitance 2^-53: the second pin's delay is 1 + 2^-52, where the other order of adding would give 1
pub second-delay : delay_of row load (technology one (fin false 1 (negsuc 52))) first second ≡ fin false 4503599627370497 (negsuc 51)
unfolding answer_for
second-delay = refl

pub last-delay : delay_of row load (technology one (fin false 1 (negsuc 52))) first fourth ≡ fin false 2251799813685249 (negsuc 50)
unfolding answer_for
last-delay = refl

pub four-given : delay_answer row load pins (technology one (fin false 1 (negsuc 52))) first 4 ≡ given 4
unfolding answer_for
four-given = refl

pub no-space : delay_answer row load pins (technology nan one) first 3 ≡ refused 21
unfolding answer_for
no-space = refl

-- one pin: its own delay is 0
pub alone-given : delay_answer [] load (second ∷ []) (technology one one) second 1 ≡ given 1
unfolding answer_for
alone-given = refl

pub alone-zero : delay_of [] load (technology one one) second second ≡ zero
unfolding answer_for
alone-zero = refl

-- a technology that overflows
pub overflow : delay_answer row load pins (technology greatest one) first 4 ≡ refused 40
unfolding answer_for
overflow = refl

-- not a number, infinity, zero, minus zero, a negative number; the least number is taken
pub not-a-number : delay_answer row load pins (technology nan one) first 4 ≡ refused 38
unfolding answer_for
not-a-number = refl

pub infinity : delay_answer row load pins (technology one (inf false)) first 4 ≡ refused 38
unfolding answer_for
infinity = refl

pub nothing : delay_answer row load pins (technology zero one) first 4 ≡ refused 38
unfolding answer_for
nothing = refl

pub minus-nothing : delay_answer row load pins (technology one (fin true 0 (pos 0))) first 4 ≡ refused 38
unfolding answer_for
minus-nothing = refl

pub negative : delay_answer row load pins (technology (fin true 1 (pos 0)) one) first 4 ≡ refused 38
unfolding answer_for
negative = refl

pub least-taken : delay_answer row load pins (technology least least) first 4 ≡ given 4
unfolding answer_for
least-taken = refl

-- a driver one place off
pub no-driver : delay_answer row load pins (technology one one) (place (negsuc 1) (pos 0)) 4 ≡ refused 39
unfolding answer_for
no-driver = refl
