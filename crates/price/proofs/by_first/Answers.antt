-- `price::by_first` meets its contract.
-- Assumes nothing.
use Rattle.std.proofs.Common.{ℕ, refl, sym, ap, ◌∙◌, arith}
use Rattle.lent.specs.Told.{given}
use Rattle.net.specs.Answer.{number, told_by}
use Rattle.bands.specs.declared.Band.{Band}
use Rattle.price.specs.Charge.{charge, reaches}
use Rattle.bands.proofs.BandLaws.{bands-next, bands-end}
use Rattle.price.proofs.FirstLaws.{first-hit, first-miss, first-end}
use Rattle.price.proofs.PriceLaws.{rate-low, rest-low}
use Rattle.price.proofs.by_first.Goals as goal

pub loop-i-init : goal.loop-i-init
loop-i-init c = (refl, c.requires.1)

pub charge-requires : goal.charge-requires
charge-requires c =
    let next = bands-next c.args.bands.now c.loop-i.i (omega arith) in
    (c.requires.0, rw c.band_at-band.ensures (rate-low _ _ _ next c.loop-i.invariant.1))

pub returns-then-is_reaching : goal.returns-then-is_reaching
unfolding told_by
returns-then-is_reaching c =
    let metal = c.args.metal in
    let b = c.band_at-band.ensures in
    let next = bands-next c.args.bands.now c.loop-i.i (omega arith) in
    let told = c.is_reaching.ensures ∙ ap (reaches metal) b in
    ap (λ (h : ℕ). given h) (c.charge.ensures ∙ ap (λ (d : Band). charge metal d.rate) b)
    ∙ sym (c.loop-i.invariant.0 ∙ first-hit metal _ _ _ next (sym told ∙ c.if-is_reaching.true))

pub loop-i-preserved : goal.loop-i-preserved
loop-i-preserved c =
    let metal = c.args.metal in
    let next = bands-next c.args.bands.now c.loop-i.i (omega arith) in
    let told = c.is_reaching.ensures ∙ ap (reaches metal) c.band_at-band.ensures in
    (c.loop-i.invariant.0 ∙ first-miss metal _ _ _ next (sym told ∙ c.if-is_reaching.false), rest-low _ _ _ next c.loop-i.invariant.1)

pub returns : goal.returns
unfolding told_by number
returns c = sym (c.loop-i.invariant.0 ∙ first-end c.args.metal _ (bands-end c.args.bands.now c.loop-i.i (omega arith)))
