use Rattle.std.proofs.Common.{arith}
use Rattle.sweeps.proofs.TableLaws.{pass-none, pass-down-step, pass-weaker}
use Rattle.sweeps.proofs.pass_down.Goals as goal

pub loop-a-init : goal.loop-a-init
loop-a-init c = pass-none _ _ _ _ (λ b i. omega (arith, i.0, i.1)) c.requires.1.0

pub loop-a-preserved : goal.loop-a-preserved
loop-a-preserved c =
    let h = c.loop-a-test.true in
    pass-down-step _ _ _ _ _ _ _ _ _ _ (omega (arith, h)) c.loop-a.invariant c.visit-moved.ensures

pub returns : goal.returns
returns c = let end = c.loop-a-test.false in pass-weaker _ _ _ _ _ _ _ c.loop-a.invariant (λ b i. (omega (arith, i, end), i))
