-- What is answered for the pins: rules Y6, Y7 and C38 to C40.
use Rattle.std.specs.Prelude.{Bool, cond, not, List, map, ℕ, ltb, length, Float, Result}
use Rattle.lists.specs.Any.{any}
use Rattle.lists.specs.Sorted.{sorted}
use Rattle.lent.specs.Told.{Told, refused, given}
use Rattle.plane.specs.declared.Place.{Place}
use Rattle.plane.specs.Place.{before, same_place}
use Rattle.plane.specs.Distance.{distance}
use Rattle.net.specs.declared.Refusal.{Refusal}
use Rattle.net.specs.Answer.{told_by}
use Rattle.floats.specs.declared.Technology.{Technology}
use Rattle.floats.specs.Float.{zero}
use Rattle.floats.specs.Mark.{Delay, marked, is_mark, usable}
use Rattle.elmore.specs.Rooted.{rooted}
use Rattle.elmore.specs.Elmore.{delays, delay_in}

-- Y6: the delay of a point q; the driver's own is 0, since it hangs from nothing
unfoldable pub delay_of : List (Place × Place) → (Place → ℕ) → Technology → Place → Place → Float
delay_of es load t driver q = delay_in same_place q zero (delays distance load t driver zero (rooted es driver))

-- Y7: for each pin, in the order of places
unfoldable pub marks_of : List (Place × Place) → (Place → ℕ) → Technology → Place → List Place → List Delay
marks_of es load t driver pins = map (λ q. marked (delay_of es load t driver q)) (sorted before pins)

-- C40: 40 where there is a mark, otherwise how many delays are given
unfoldable pub unless_marked : ℕ → List Delay → Told ℕ
unless_marked m marks = cond (any is_mark marks) (refused 40) (given m)

-- C85, in this order: 21, room for fewer than m delays; 38, a technology that is not usable; 39, the driver is not found among the
-- pins; then what the delays say, and nothing before them asks for a tree
unfoldable pub delayed : ℕ → ℕ → Technology → Bool → List Delay → Told ℕ
delayed room m t found marks =
    cond (ltb room m) (refused 21) (cond (not (usable t)) (refused 38) (cond (not found) (refused 39) (unless_marked m marks)))

-- the answer for a tree of edges, with the pins' loads
unfoldable pub delay_answer : List (Place × Place) → (Place → ℕ) → List Place → Technology → Place → ℕ → Told ℕ
delay_answer es load pins t driver room =
    delayed room (length pins) t (any (same_place driver) pins) (marks_of es load t driver pins)

-- what the code's answer says
abbrev pub told_delays : Result ℕ Refusal → Told ℕ
told_delays = told_by (λ m. m)
