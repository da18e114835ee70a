-- `router::allowed::wires` meets its contract: where there is room, the wires given are those of the net's refined tree.
-- Assumes nothing.
use Rattle.std.proofs.Common.{◌≡◌, ◌∙◌, ℕ, ◌≤◌, ◌<◌, ◌^◌, ℤ, pos, refl, sym, ap, ap₂, arith, length, to_z, w64}
use borrow.Author.Tests.{ltb-true, ltb-false}
use Rattle.lent.specs.Told.{given}
use Rattle.net.specs.Answer.{number, told_by}
use Rattle.net.specs.Pins.{pin_count}
use Rattle.net.specs.Net.{handed}
use Rattle.room.specs.Needs.{wire_need}
use Rattle.made.proofs.CountedLaws.{counts-few}
use Rattle.answers.specs.Graph.{point_count}
use Rattle.answers.specs.Wires.{wires_of, wires_given}
use Rattle.answers.proofs.AnswerLaws.{room-short, room-enough}
use Rattle.router.proofs.RoomLaws.{wires-ask}
use Rattle.router.proofs.CallLaws.{gives-refused, gives-given}
use Rattle.router.proofs.allowed.wires.Goals as goal

pub wires_short-requires : goal.wires_short-requires
wires_short-requires c = let few = counts-few c.requires in record { pins_le_pin_bound = few.0; macros_le_macro_bound = few.1 }

pub returns-then-wires_short : goal.returns-then-wires_short
unfolding wires_given told_by number
returns-then-wires_short c =
    let a = c.args in
    let short = c.wires_short.ensures ∙ wires-ask c.requires _ in
    gives-refused refl
    (room-short (wire_need (point_count a.pins.now a.macros.now) (pin_count a.pins.now)) (length a.wires.now) _
    (ltb-true _ _ (sym short ∙ c.if-wires_short.true)))

pub wires-requires : goal.wires-requires
wires-requires c =
    let short = c.wires_short.ensures ∙ wires-ask c.requires _ in
    record { counted = c.requires; pins_in_bounds = ltb-false _ _ (sym short ∙ c.if-wires_short.false) }

pub returns : goal.returns
unfolding wires_given told_by
returns c =
    let a = c.args in
    let short = c.wires_short.ensures ∙ wires-ask c.requires _ in
    gives-given
    (ap (λ (n : ℕ). given n) c.wires.ensures.value)
    (room-enough (wire_need (point_count a.pins.now a.macros.now) (pin_count a.pins.now)) (length a.wires.now)
    (length (wires_of (handed a.net.weights) a.pins.now a.macros.now)) (ltb-false _ _ (sym short ∙ c.if-wires_short.false)))
    c.wires.ensures.wires_after
