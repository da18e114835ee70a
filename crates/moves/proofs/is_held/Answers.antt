use Rattle.std.proofs.Common.{arith, get_or}
use Rattle.turned.specs.Turned.{on_it}
use Rattle.turned.proofs.StepLaws.{up_start, up-end, none_next, some_passes}
use Rattle.moves.specs.Moving.{label_view, held}
use Rattle.moves.proofs.is_held.Goals as goal
use borrow.Author.Tests.{eq-eqb, ne_eqb}

pub loop-i-init : goal.loop-i-init
loop-i-init c = up_start _ _

pub returns-then-lab-seats : goal.returns-then-lab-seats
unfolding held
returns-then-lab-seats c =
    let a = c.args in
    some_passes (λ j. on_it (label_view a.lab.now a.l) (get_or a.seats.now j 0)) c.loop-i.i a.m (omega arith)
    (eq-eqb _ _ c.if-lab-seats.true)

pub loop-i-preserved : goal.loop-i-preserved
loop-i-preserved c =
    let a = c.args in
    none_next (λ j. on_it (label_view a.lab.now a.l) (get_or a.seats.now j 0)) c.loop-i.i c.loop-i.invariant
    (ne_eqb _ _ c.if-lab-seats.false)

pub returns : goal.returns
unfolding held
returns c = up-end _ _ _ _ _ c.loop-i.invariant (omega arith) (omega arith)
