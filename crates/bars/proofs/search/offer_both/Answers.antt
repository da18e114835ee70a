use Rattle.bars.proofs.CodeLaws.{both-level, both-not}
use Rattle.bars.proofs.search.offer_both.Goals as goal

pub returns-then-leads : goal.returns-then-leads
returns-then-leads c =
    both-level _ _ _ _ _ _ _ _ _ _ c.leads.ensures c.if-leads.true _ _ _ _ c.first_end.ensures.0 c.opposite.ensures
    c.offer-b.ensures c.offer.ensures

pub returns-else-leads : goal.returns-else-leads
returns-else-leads c = both-not _ _ _ _ _ _ _ _ _ _ c.leads.ensures c.if-leads.false
