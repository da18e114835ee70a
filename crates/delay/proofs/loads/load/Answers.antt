use Rattle.std.proofs.Common.{◌≡◌, ◌∙◌, ap, arith}
use Rattle.std.specs.Int.{from_bool}
use Rattle.lists.specs.Any.{any}
use Rattle.plane.specs.declared.Place.{Place}
use Rattle.plane.specs.Place.{same_place}
use Rattle.net.specs.Pins.{pin_places, pin_entries}
use Rattle.delay.specs.Load.{load_of}
use Rattle.delay.proofs.LoadedLaws.{loaded-none, loaded-next}
use Rattle.delay.proofs.loads.load.Goals as goal

pub loop-i-init : goal.loop-i-init
loop-i-init c = loaded-none _ _

pub loop-i-preserved : goal.loop-i-preserved
loop-i-preserved c =
    let pins = c.args.pins.now in
    loaded-next c.loop-i.pin c.loop-i.loads c.loop-i.i c.loop-i.invariant (omega arith) (omega arith) _ _
    (c.from.ensures
    ∙ ap from_bool (c.is_pin.ensures ∙ ap (λ (p : Place). any (same_place p) (pin_places pins)) c.place_at-q.ensures))
    (c.load_of.ensures ∙ ap (load_of (pin_entries pins)) c.place_at-q.ensures)

pub returns : goal.returns
returns c = let end : c.args.n ≡ c.loop-i.i = omega arith in rw end c.loop-i.invariant
