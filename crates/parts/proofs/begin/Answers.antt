use Rattle.std.proofs.Common.{arith}
use Rattle.parts.proofs.WorkLaws.{begin-none, begin-more, begin-end, lone-more}
use Rattle.parts.proofs.begin.Goals as goal

pub loop-p-init : goal.loop-p-init
loop-p-init c = begin-none _ _ _ _ c.requires.below.1

pub loop-p-preserved : goal.loop-p-preserved
loop-p-preserved c = begin-more _ _ _ _ _ _ (omega arith) c.loop-p.invariant c.try_part.ensures

pub returns-after-loop-p : goal.returns-after-loop-p
returns-after-loop-p c =
    let none = c.in-None.ensures in
    let more = lone-more c.args.s c.requires.rows_to.1.0 none in
    begin-end _ _ _ _ _ _ none (omega (arith, more)) (omega (arith, c.loop-p-test.false)) c.loop-p.invariant
