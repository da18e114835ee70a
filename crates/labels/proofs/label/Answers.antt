use Rattle.std.proofs.Common.{List, ℕ, ap, ◌∙◌, arith}
use Rattle.turned.specs.Steps.{up_to}
use Rattle.turned.proofs.StepLaws.{up_start, up_next, up-end}
use Rattle.labels.specs.Labelling.{joined_by, labelled}
use Rattle.labels.proofs.OwnLaws.{own-numbered}
use Rattle.labels.proofs.label.Goals as goal

pub loop-k-init : goal.loop-k-init
loop-k-init c = (up_start _ _, own-numbered _ _ _ c.number.ensures)

pub join-top-requires-clause-n_le_straight_bound : goal.join-top-requires-clause-n_le_straight_bound
join-top-requires-clause-n_le_straight_bound c =
    (omega (arith, c.requires), (omega (arith, c.requires), c.requires.1.1.small c.loop-k.k))

pub loop-k-preserved : goal.loop-k-preserved
loop-k-preserved c = (up_next _ _ _ _ _ c.loop-k.invariant.0 c.join-top.ensures.lab_after, c.join-top.ensures.own_2)

pub returns : goal.returns
unfolding labelled
returns c =
    let a = c.args in
    up-end _ _ _ _ _ c.loop-k.invariant.0 (omega arith) (omega arith)
    ∙ ap (λ (t : List ℕ). up_to (joined_by a.s a.pts.now a.keys.now a.n) a.e t) c.number.ensures
