use Rattle.std.proofs.Common.{ap, ◌∙◌, arith}
use Rattle.turned.proofs.StepLaws.{up_start, up_next, up-end}
use Rattle.slide.specs.declared.Side.TheVariants.{Right}
use Rattle.bars.specs.declared.Best.{Best}
use Rattle.moves.specs.Moving.{opposite}
use Rattle.bars.specs.Offers.{offered_both, searched}
use Rattle.bars.proofs.search.search_by.Goals as goal

pub loop-k-init : goal.loop-k-init
loop-k-init c = up_start _ _

pub offer_both-c-requires-clause-tallied : goal.offer_both-c-requires-clause-tallied
unfolding opposite
offer_both-c-requires-clause-tallied c = c.requires.tallied

pub offer_both-c-requires-in-loop-k-clause-tallied : goal.offer_both-c-requires-in-loop-k-clause-tallied
unfolding opposite
offer_both-c-requires-in-loop-k-clause-tallied c = c.requires.tallied_2

pub loop-k-preserved : goal.loop-k-preserved
loop-k-preserved c =
    let s = c.args in
    up_next _ _ _ _ _ c.loop-k.invariant
    (c.offer_both-c-in-loop-k.ensures
    ∙ ap (λ (d : Best). offered_both s.pts.now s.keys.now s.columns.now s.z s.macros.now s.seats.now Right c.loop-k.k d)
    c.offer_both-c.ensures)

pub returns : goal.returns
unfolding searched
returns c = up-end _ _ _ _ _ c.loop-k.invariant (omega arith) (omega arith)
