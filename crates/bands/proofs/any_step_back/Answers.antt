-- `bands::any_step_back` meets its contract.
-- Assumes nothing.
use Rattle.std.proofs.Common.{◌+◌, sym, ap₂, ◌∙◌, arith, drop-drop}
use Rattle.bands.specs.Band.{bands_of}
use Rattle.bands.specs.Order.{steps_back}
use Rattle.bands.proofs.BandLaws.{bands-next, bands-end}
use Rattle.bands.proofs.OrderLaws.{back-hit, back-miss, back_end}
use Rattle.bands.proofs.any_step_back.Goals as goal

pub returns-then-is_step_back : goal.returns-then-is_step_back
returns-then-is_step_back c =
    let s = c.args.bands.now in
    let at = bands-next s c.loop-i.i (omega arith) in
    let next = bands-next s (c.loop-i.i + 1) (omega arith) in
    let told = c.is_step_back.ensures ∙ ap₂ steps_back c.band_at.ensures c.band_at-in-loop-i.ensures in
    sym (c.loop-i.invariant ∙ back-hit _ _ _ _ _ at next (sym told ∙ c.if-is_step_back.true))

pub loop-i-preserved : goal.loop-i-preserved
loop-i-preserved c =
    let s = c.args.bands.now in
    let at = bands-next s c.loop-i.i (omega arith) in
    let next = bands-next s (c.loop-i.i + 1) (omega arith) in
    let told = c.is_step_back.ensures ∙ ap₂ steps_back c.band_at.ensures c.band_at-in-loop-i.ensures in
    c.loop-i.invariant ∙ back-miss _ _ _ _ _ at next (sym told ∙ c.if-is_step_back.false)

pub returns : goal.returns
returns c =
    let s = c.args.bands.now in
    let end = bands-end s (c.loop-i.i + 1) (omega arith) in
    sym (c.loop-i.invariant ∙ back_end _ (drop-drop 1 c.loop-i.i (bands_of s) ∙ end))
