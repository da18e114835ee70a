use Rattle.std.proofs.Common.{refl, arith}
use borrow.Author.Tests.{eq-eqb, ne_eqb}
use Rattle.moves.specs.Moving.{label_view}
use Rattle.moves.proofs.MovingLaws.{last-found, last_missed, last-none}
use Rattle.moves.proofs.last_of.Goals as goal

pub loop-i-init : goal.loop-i-init
loop-i-init c = refl

pub loop-i-preserved : goal.loop-i-preserved
loop-i-preserved c =
    last_missed (label_view c.args.lab.now c.args.l) c.loop-i.i _ c.loop-i-test.true (ne_eqb _ _ c.if-lab-i.false) c.loop-i.invariant

pub returns-then-lab-i : goal.returns-then-lab-i
returns-then-lab-i c = (
  last-found (label_view c.args.lab.now c.args.l) c.loop-i.i _ c.loop-i-test.true (eq-eqb _ _ c.if-lab-i.true) c.loop-i.invariant,
  omega (arith, c.requires),
)

pub returns : goal.returns
returns c = (
  last-none (label_view c.args.lab.now c.args.l) c.loop-i.i _ c.loop-i-test.false c.loop-i.invariant,
  c.requires.1,
)
