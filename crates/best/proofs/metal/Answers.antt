use Rattle.std.proofs.Common.{arith}
use Rattle.best.proofs.GivenLaws.{metal-none, metal-more, metal-end}
use Rattle.best.proofs.metal.Goals as goal

pub loop-j-init : goal.loop-j-init
loop-j-init c = (omega arith, metal-none _ _ _)

pub marked_length-sum-requires : goal.marked_length-sum-requires
marked_length-sum-requires c = let h = c.loop-j-test.true in (omega (arith, h, c.requires.0), c.requires.1 _ h)

pub loop-j-preserved : goal.loop-j-preserved
loop-j-preserved c = (
  omega (arith, c.marked_length-sum.ensures.1, c.loop-j.invariant.0),
  metal-more _ _ _ _ _ _ c.loop-j.invariant.1 c.marked_length-sum.ensures.0,
)

pub returns : goal.returns
returns c = metal-end _ _ _ _ _ _ (omega arith) c.loop-j-test.false c.loop-j.invariant.1
