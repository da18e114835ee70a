use Rattle.std.proofs.Common.{◌∙◌, sym, ap, arith, rules}
use mir.Syntax.{w32}
use mir.ValLaws.{to_z-of_z}
use Rattle.signed.specs.Sides.{up}
use Rattle.plane.specs.Place.{same_place}
use Rattle.plane.specs.declared.Place.{Place}
use Rattle.net.specs.Tests.{no_load}
use Rattle.net.proofs.PinLaws.{entries_next, entries-end, loads-next}
use Rattle.delay.proofs.LoadedLaws.{load-hit, load-miss, load-end, none-next}
use Rattle.delay.proofs.loads.load_of.Goals as goal

pub unsigned-requires : goal.unsigned-requires
unsigned-requires c =
    ap no_load (to_z-of_z w32 _ (search rules) ∙ c.load_at.ensures)
    ∙ (none-next no_load _ _ _ (loads-next c.args.pins.now c.loop-i.i (omega arith)) c.loop-i.invariant.1).0

pub returns-then-is_same_place : goal.returns-then-is_same_place
returns-then-is_same_place c =
    c.unsigned.ensures
    ∙ ap up (to_z-of_z w32 _ (search rules) ∙ c.load_at.ensures)
    ∙ sym (c.loop-i.invariant.0 ∙ load-hit c.args.q _ _ _ _ (entries_next c.args.pins.now c.loop-i.i (omega arith))
    (sym (c.is_same_place.ensures ∙ ap (λ (p : Place). same_place p c.args.q) c.pin_at.ensures) ∙ c.if-is_same_place.true))

pub loop-i-preserved : goal.loop-i-preserved
loop-i-preserved c = (
  c.loop-i.invariant.0 ∙ load-miss c.args.q _ _ _ _ (entries_next c.args.pins.now c.loop-i.i (omega arith))
      (sym (c.is_same_place.ensures ∙ ap (λ (p : Place). same_place p c.args.q) c.pin_at.ensures) ∙ c.if-is_same_place.false),
  (none-next no_load _ _ _ (loads-next c.args.pins.now c.loop-i.i (omega arith)) c.loop-i.invariant.1).1,
)

pub returns : goal.returns
returns c = sym (c.loop-i.invariant.0 ∙ load-end c.args.q _ (entries-end c.args.pins.now c.loop-i.i (omega arith)))
