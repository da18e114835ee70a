-- `encoded::put_places` meets its contract.
-- Assumes nothing.
use Rattle.std.proofs.Common.{◌*◌, refl, ap, ◌∙◌, arith}
use Rattle.std.proofs.lemmas.List.Edits.{sets}
use Rattle.lent.specs.Over.{over}
use Rattle.lent.specs.Entries.{flat}
use Rattle.plane.specs.declared.Place.{Place}
use Rattle.plane.specs.Flat.{place_from, place_numbers}
use Rattle.net.specs.Pins.{pin_places}
use Rattle.net.proofs.WidthLaws.{place-width}
use Rattle.net.proofs.PinLaws.{pins-next, pins-end}
use Rattle.blocks.proofs.FillLaws.{fill_more, fill-all}
use Rattle.encoded.proofs.StoredLaws.{length-alone}
use Rattle.encoded.proofs.put_places.Goals as goal

pub loop-i-init : goal.loop-i-init
unfolding over flat
loop-i-init c = refl

pub put_place-requires : goal.put_place-requires
put_place-requires c = omega (arith, length-alone c.args.pins.now)

pub loop-i-preserved : goal.loop-i-preserved
loop-i-preserved c =
    let s = c.args.pins.now in
    let i = c.loop-i.i in
    c.put_place.ensures
    ∙ ap (λ (p : Place). sets c.loop-i.places (i * 2) (place_numbers p)) c.pin_at.ensures
    ∙ fill_more place_numbers place_from 2 place-width (pin_places s) i _ _ _ _ (pins-next s i (omega arith)) c.loop-i.invariant
    (omega (arith, length-alone s))

pub returns : goal.returns
returns c =
    let s = c.args.pins.now in
    fill-all place_numbers place_from 2 place-width (pin_places s) c.loop-i.i _ _ (pins-end s c.loop-i.i (omega arith)) c.loop-i.invariant
