-- An edge whose bound is no more than what is gained already changes nothing, and any other one has its own best, which comes or not.
use Rattle.candidates.proofs.BoundLaws.{bound-stays, bound-comes, bound-keeps, own_shut, bounded-set}
use Rattle.candidates.proofs.candidate.ask.Goals as goal

pub returns-then-bound-k-clause-value : goal.returns-then-bound-k-clause-value
returns-then-bound-k-clause-value c =
    bound-stays _ _ _ _ _ _ _ _ _ c.requires.bounded _ c.requires.k_lt_e.0.0 _ c.if-bound-k.true

pub returns-then-c-own-clause-value : goal.returns-then-c-own-clause-value
returns-then-c-own-clause-value c = bound-comes _ _ _ _ _ c.args.e _ _ _ _ c.offers-own.ensures _ c.if-c-own.true

pub returns-then-c-own-clause-bounded_2 : goal.returns-then-c-own-clause-bounded_2
returns-then-c-own-clause-bounded_2 c =
    bounded-set _ _ _ _ _ _ _ _ _ _ _ c.requires.bounded c.requires.k_lt_e.0.0 c.requires.k_lt_e.0.1
    (own_shut _ _ _ _ _ c.args.e _ _ _ _ c.offers-own.ensures)

pub returns-else-c-own-clause-value : goal.returns-else-c-own-clause-value
returns-else-c-own-clause-value c = bound-keeps _ _ _ _ _ c.args.e _ _ _ _ c.offers-own.ensures _ c.if-c-own.false

pub returns-else-c-own-clause-bounded_2 : goal.returns-else-c-own-clause-bounded_2
returns-else-c-own-clause-bounded_2 c =
    bounded-set _ _ _ _ _ _ _ _ _ _ _ c.requires.bounded c.requires.k_lt_e.0.0 c.requires.k_lt_e.0.1
    (own_shut _ _ _ _ _ c.args.e _ _ _ _ c.offers-own.ensures)
