-- `router::allowed::slid_tree` meets its contract: where there is room, the edges given are those of the net's slid tree.
-- Assumes nothing.
use Rattle.std.proofs.Common.{◌≡◌, ◌∙◌, ℕ, ◌*◌, List, ◌≤◌, ◌<◌, ◌^◌, ℤ, pos, refl, sym, ap, ap₂, arith, length, to_z, w64}
use borrow.Author.Tests.{ltb-true, ltb-false}
use lib.ListN.{length-replicate}
use mir.ValLaws.{to_z_pos}
use Rattle.lent.specs.Told.{given}
use Rattle.lent.specs.Over.{over}
use Rattle.lent.specs.Entries.{flat}
use Rattle.joined.specs.Cost.{lengths}
use Rattle.plane.specs.declared.Place.{Place}
use Rattle.plane.specs.declared.Weights.{Weights}
use Rattle.plane.specs.Cost.{cost}
use Rattle.plane.specs.Distance.{distance}
use Rattle.plane.proofs.FlatLaws.{length-macros}
use Rattle.net.specs.Answer.{number, told_by}
use Rattle.net.specs.Pins.{pin_count}
use Rattle.net.specs.Net.{Net, net_of, handed}
use Rattle.net.specs.Allowed.{Allowed}
use Rattle.net.proofs.PinLaws.{length-pins}
use Rattle.room.specs.Needs.{wire_need}
use Rattle.graph.specs.Numbers.{edge_numbers}
use Rattle.laid.specs.Edges.{laid_bound}
use Rattle.answers.specs.Graph.{point_count}
use Rattle.answers.specs.Slid.{slid_total, slid_metal, slid_answer, slid_given}
use Rattle.answers.proofs.AnswerLaws.{room-short, room-enough}
use Rattle.made.proofs.CountedLaws.{as-net, counts-few}
use Rattle.router.proofs.RoomLaws.{wires-ask}
use Rattle.router.proofs.CallLaws.{gives-refused, gives-given}
use Rattle.router.proofs.SlidLaws.{slid-few}
use Rattle.router.proofs.SlidTable.{slid-low, slid-metal-low, slid-count, slid-within}
use Rattle.router.proofs.allowed.slid_tree.Goals as goal

pub wires_short-requires : goal.wires_short-requires
wires_short-requires c = let few = counts-few c.requires in record { pins_le_pin_bound = few.0; macros_le_macro_bound = few.1 }

pub returns-then-wires_short : goal.returns-then-wires_short
unfolding slid_given told_by number
returns-then-wires_short c =
    let a = c.args in
    let short = c.wires_short.ensures ∙ wires-ask c.requires _ in
    gives-refused refl
    (room-short (wire_need (point_count a.pins.now a.macros.now) (pin_count a.pins.now)) (length a.edges.now) _
    (ltb-true _ _ (sym short ∙ c.if-wires_short.true)))

-- the table is as long as it was made, and holds the slid tree's edges
pub total-total-requires : goal.total-total-requires
total-total-requires c =
    let size = c.slide-count.auto.table ∙ length-replicate (laid_bound * 4) (pos 0) in
    let w = slid-within c.requires.allowed _ _ c.slide-count.ensures in (omega (arith, w, size), w)

pub metal-metal-requires : goal.metal-metal-requires
metal-metal-requires c =
    let size = c.slide-count.auto.table ∙ length-replicate (laid_bound * 4) (pos 0) in
    let w = slid-within c.requires.allowed _ _ c.slide-count.ensures in (omega (arith, w, size), w)

pub give-requires : goal.give-requires
give-requires c =
    let a = c.args in
    let size = c.slide-count.auto.table ∙ length-replicate (laid_bound * 4) (pos 0) in
    let w = slid-within c.requires.allowed _ _ c.slide-count.ensures in
    let short = c.wires_short.ensures ∙ wires-ask c.requires _ in (
      omega (arith, w, size),
      omega (
        arith,
        slid-count c.requires.allowed _ _ c.slide-count.ensures,
        slid-few c.requires.allowed,
        ltb-false _ _ (sym short ∙ c.if-wires_short.false),
        length-pins a.pins.now,
        length-macros a.macros.now,
      ),
    )

pub overflow_cast-result : goal.overflow_cast-result
overflow_cast-result c =
    let total-is : c.total-total.result ≡ slid_total (handed c.args.net.weights) c.args.pins.now c.args.macros.now =
    c.total-total.ensures.0
    ∙ ap₂ (λ (v : Weights) (es : List (Place × Place)). lengths (cost v) es) (ap (λ (z : Net). z.weights) (as-net c.requires))
    c.slide-count.ensures in
    record { sfits = omega (arith, total-is, slid-low c.requires.allowed) }

pub overflow_cast-result-2 : goal.overflow_cast-result-2
overflow_cast-result-2 c =
    let metal-is : c.metal-metal.result ≡ slid_metal (handed c.args.net.weights) c.args.pins.now c.args.macros.now =
    c.metal-metal.ensures.0 ∙ ap (lengths distance) c.slide-count.ensures in
    record { sfits = omega (arith, metal-is, slid-metal-low c.requires.allowed) }

pub returns : goal.returns
unfolding slid_given told_by
returns c =
    let a = c.args in
    let w = handed a.net.weights in
    let allowed : Allowed (net_of w a.pins.now a.macros.now) = c.requires.allowed in
    let short = c.wires_short.ensures ∙ wires-ask c.requires _ in
    -- the total and the metal, which fit
    let total-is : c.total-total.result ≡ slid_total w a.pins.now a.macros.now =
    c.total-total.ensures.0
    ∙ ap₂ (λ (v : Weights) (es : List (Place × Place)). lengths (cost v) es) (ap (λ (z : Net). z.weights) (as-net c.requires))
    c.slide-count.ensures in
    let metal-is : c.metal-metal.result ≡ slid_metal w a.pins.now a.macros.now =
    c.metal-metal.ensures.0 ∙ ap (lengths distance) c.slide-count.ensures in
    let total-fits : c.total-total.result < 2 ^ 63 = omega (arith, total-is, slid-low allowed) in
    let metal-fits : c.metal-metal.result < 2 ^ 63 = omega (arith, metal-is, slid-metal-low allowed) in
    let given_is : ℕ × (ℤ × ℤ) = slid_answer w a.pins.now a.macros.now in
    let sum : to_z w64 c.total-total.result ≡ pos (slid_total w a.pins.now a.macros.now) =
    to_z_pos w64 c.total-total.result total-fits ∙ ap pos total-is in
    let laid : to_z w64 c.metal-metal.result ≡ pos (slid_metal w a.pins.now a.macros.now) =
    to_z_pos w64 c.metal-metal.result metal-fits ∙ ap pos metal-is in
    gives-given
    (ap₂ (λ (n : ℕ) (z : ℤ × ℤ). given (n, z)) (slid-count allowed _ _ c.slide-count.ensures) (ap₂ (λ (x y : ℤ). (x, y)) sum laid))
    (room-enough {A = ℕ × (ℤ × ℤ)} (wire_need (point_count a.pins.now a.macros.now) (pin_count a.pins.now)) (length a.edges.now)
    given_is (ltb-false _ _ (sym short ∙ c.if-wires_short.false)))
    (c.give.ensures ∙ ap (λ (es : List (Place × Place)). over (flat edge_numbers es) a.edges.now) c.slide-count.ensures)
