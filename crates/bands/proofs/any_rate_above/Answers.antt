-- `bands::any_rate_above` meets its contract.
-- Assumes nothing.
use Rattle.std.proofs.Common.{sym, ap, ◌∙◌, arith}
use Rattle.lists.proofs.AnyLaws.{any-hit, any-miss, any-end}
use Rattle.bands.specs.Tests.{rate_above}
use Rattle.bands.proofs.BandLaws.{bands-next, bands-end}
use Rattle.bands.proofs.any_rate_above.Goals as goal

pub returns-then-is_rate_above : goal.returns-then-is_rate_above
returns-then-is_rate_above c =
    let next = bands-next c.args.bands.now c.loop-i.i (omega arith) in
    let told = c.is_rate_above.ensures ∙ ap rate_above c.band_at.ensures in
    sym (c.loop-i.invariant ∙ any-hit rate_above _ _ _ next (sym told ∙ c.if-is_rate_above.true))

pub loop-i-preserved : goal.loop-i-preserved
loop-i-preserved c =
    let next = bands-next c.args.bands.now c.loop-i.i (omega arith) in
    let told = c.is_rate_above.ensures ∙ ap rate_above c.band_at.ensures in
    c.loop-i.invariant ∙ any-miss rate_above _ _ _ next (sym told ∙ c.if-is_rate_above.false)

pub returns : goal.returns
returns c = sym (c.loop-i.invariant ∙ any-end rate_above _ (bands-end c.args.bands.now c.loop-i.i (omega arith)))
