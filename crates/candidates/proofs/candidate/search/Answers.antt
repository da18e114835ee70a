-- One edge more is asked.
use Rattle.std.proofs.Common.{arith}
use Rattle.lists.proofs.TurnLaws.{turns_next, turns-end}
use Rattle.candidates.specs.Candidate.{search}
use Rattle.candidates.proofs.candidate.search.Goals as goal

pub loop-k-preserved : goal.loop-k-preserved
loop-k-preserved c =
    (c.ask-found.ensures.bounded_2, turns_next _ _ _ _ _ _ c.loop-k.invariant.1 (omega arith) c.ask-found.ensures.value)

pub returns-clause-value : goal.returns-clause-value
unfolding search
returns-clause-value c = turns-end _ _ _ _ _ c.loop-k.invariant.1 (omega arith)
