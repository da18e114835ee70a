use Rattle.grid.proofs.RowLaws.{held_then}
use Rattle.grid.proofs.PassLaws.{held-row}
use Rattle.grid.proofs.settle.Goals as goal

pub loop-init : goal.loop-init
loop-init c = record { held = c.pass_on.ensures.held; onward = c.pass_on.ensures.quiet }

pub pass_both-requires : goal.pass_both-requires
pass_both-requires c = record {
  fits = (c.requires.0, held-row _ _ _ c.requires.1 c.loop.invariant.held);
  quiet = c.loop.invariant.onward;
}

pub loop-smaller : goal.loop-smaller
loop-smaller c = c.pass_both.ensures.less c.loop-test.true

pub loop-preserved : goal.loop-preserved
loop-preserved c = record {
  held = held_then _ _ _ _ c.loop.invariant.held c.pass_both.ensures.held;
  onward = c.pass_both.ensures.onward;
}

pub returns : goal.returns
returns c = record {
  held = held_then _ _ _ _ c.loop.invariant.held c.pass_both.ensures.held;
  quiet = c.pass_both.ensures.quiet c.loop-test.false;
}
