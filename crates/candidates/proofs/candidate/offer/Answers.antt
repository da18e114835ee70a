-- Where L leaves no greater gain the best so far stays.
use Rattle.std.proofs.Common.{◌∙◌, refl}
use Rattle.std.proofs.lemmas.Bool.{eq-eqb, ne_eqb}
use Rattle.candidates.proofs.CandidateLaws.{offer-none, offer-is, offer-near}
use Rattle.candidates.proofs.candidate.offer.Goals as goal
use Rattle.candidates.proofs.candidate.offer.Goals.{then-u-a-via-then-u-a, then-u-a-via-else-u-a+then-u-b, then-u-a-via-else-u-a+else-u-b+then-l-k}

pub returns-then-u-a : goal.returns-then-u-a
returns-then-u-a c t q =
    offer-none _ _ _ _ _ t _ _ _ _ _ _ q
    (elim c.then-u-a.branch [
      | then-u-a-via-then-u-a w ↦ rw (eq-eqb _ _ w.if-u-a.true) refl
      | then-u-a-via-else-u-a+then-u-b w ↦ rw (ne_eqb _ _ w.if-u-a.false, eq-eqb _ _ w.if-u-b.true) refl
      | then-u-a-via-else-u-a+else-u-b+then-l-k w ↦
          rw (ne_eqb _ _ w.if-u-a.false, ne_eqb _ _ w.if-u-b.false, eq-eqb _ _ w.if-l-k.true) refl
    ])

pub returns-then-may_gain : goal.returns-then-may_gain
returns-then-may_gain c t q =
    c.weigh.ensures
    ∙ offer-is _ _ _ _ _ t _ _ _ _ _ _ q (rw (ne_eqb _ _ c.if-u-a.false, ne_eqb _ _ c.if-u-b.false, ne_eqb _ _ c.if-l-k.false) refl)

pub returns-else-may_gain : goal.returns-else-may_gain
returns-else-may_gain c t q =
    offer-near _ _ _ _ _ t _ _ _ _ _ _ c.requires.m_value _ c.point_at.ensures _ q
    (rw (ne_eqb _ _ c.if-u-a.false, ne_eqb _ _ c.if-u-b.false, ne_eqb _ _ c.if-l-k.false) refl) _ c.may_gain.ensures
    c.if-may_gain.false
