use Rattle.std.proofs.Common.{◌≡◌, false, ◌||◌}
use Rattle.turned.specs.Steps.{up_to}
use Rattle.turned.specs.Turned.{seen_edge}
use Rattle.reach.specs.Passing.{ends_at, seen_by}
use Rattle.reach.proofs.is_far_end.Given as goal

abbrev pub invariant-loop-k : goal.invariant-loop-k
invariant-loop-k l =
    false ≡ up_to (λ j t. t || ends_at (seen_edge (seen_by l.pts l.keys l.lab l.bar) j) l.bar.most l.c) l.k false
