use Rattle.std.proofs.Common.{◌≡◌}
use Rattle.turned.specs.Steps.{up_to}
use Rattle.turned.specs.Turned.{seen_edge}
use Rattle.reach.specs.Passing.{seen_by, past}
use Rattle.reach.proofs.past_edges.Given as goal

abbrev pub invariant-loop-k : goal.invariant-loop-k
invariant-loop-k l =
    l.way ≡ up_to (λ j. past (seen_by l.pts l.keys l.lab l.bar) l.z.edges l.bar (seen_edge (seen_by l.pts l.keys l.lab l.bar) j)) l.k l.initial.way
