use Rattle.std.proofs.Common.{◌≡◌, ◌∙◌, sym, arith}
use Rattle.lists.proofs.TurnLaws.{seek_stop, seek-next, seek-end}
use Rattle.delay.proofs.find.Goals as goal

pub returns-then-is_driver : goal.returns-then-is_driver
returns-then-is_driver c =
    (seek_stop _ _ _ _ c.loop-i.invariant c.loop-i-test.true (sym c.is_driver.ensures ∙ c.if-is_driver.true), omega arith)

pub loop-i-preserved : goal.loop-i-preserved
loop-i-preserved c = seek-next _ _ _ _ c.loop-i.invariant c.loop-i-test.true (sym c.is_driver.ensures ∙ c.if-is_driver.false)

pub returns : goal.returns
returns c = ((let e : c.args.n ≡ c.loop-i.i = omega arith in e) ∙ seek-end _ _ _ _ c.loop-i.invariant (omega arith), omega arith)
