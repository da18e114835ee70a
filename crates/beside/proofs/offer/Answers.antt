use Rattle.std.proofs.Common.{◌∙◌, arith}
use Rattle.beside.proofs.BesideLaws.{off-tree, offer-none, offer-is, offer-short}
use Rattle.beside.proofs.offer.Goals as goal

pub returns-then-v-a : goal.returns-then-v-a
returns-then-v-a c = λ t seat g d q. offer-none _ _ _ _ _ t _ _ _ seat _ _ _ _ _ (off-tree _ g) _ _ d q c.if-v-a.true

-- an edge no longer than the best gain and the way gives no greater one
pub returns-then-saturating_sub-far : goal.returns-then-saturating_sub-far
returns-then-saturating_sub-far c = λ t seat g d q.
    offer-short _ _ _ _ _ t _ _ _ seat _ _ _ _ _ (off-tree _ g) _ _ d q c.if-v-a.false (omega arith)

pub returns : goal.returns
returns c = λ t seat g d q.
    c.weigh.ensures ∙ offer-is _ _ _ _ _ t _ _ _ seat _ _ _ _ _ (off-tree _ g) _ _ d q c.if-v-a.false
