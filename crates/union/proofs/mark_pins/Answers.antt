use Rattle.std.proofs.Common.{◌<◌, arith, length-take}
use Rattle.std.proofs.lemmas.List.{get_or-take}
use Rattle.union.proofs.MarkLaws.{entry-marked, entries-marked}
use Rattle.union.proofs.mark_pins.Goals as goal

pub loop-v-preserved : goal.loop-v-preserved
loop-v-preserved c =
    let h : c.loop-v.v-index < c.args.m = omega (arith, length-take c.args.m c.args.pin.now) in
    simp get_or-take (entry-marked _ _ _ _ _ c.loop-v.invariant h)

pub returns : goal.returns
returns c = entries-marked _ _ _ _ _ c.loop-v.invariant (omega (arith, length-take c.args.m c.args.pin.now))
