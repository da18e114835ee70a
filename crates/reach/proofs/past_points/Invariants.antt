use Rattle.std.proofs.Common.{◌≡◌}
use Rattle.turned.specs.Steps.{up_to}
use Rattle.turned.specs.Turned.{seen_point}
use Rattle.reach.specs.Passing.{seen_by, past}
use Rattle.reach.proofs.past_points.Given as goal

abbrev pub invariant-loop-i : goal.invariant-loop-i
invariant-loop-i l =
    l.way ≡ up_to (λ j. past (seen_by l.pts l.keys l.lab l.bar) l.z.edges l.bar (seen_point (seen_by l.pts l.keys l.lab l.bar) j)) l.i l.initial.way
