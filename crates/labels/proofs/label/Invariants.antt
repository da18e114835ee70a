use Rattle.std.proofs.Common.{◌≡◌}
use Rattle.turned.specs.Steps.{up_to}
use Rattle.labels.specs.Labelling.{Own, joined_by}
use Rattle.labels.proofs.label.Given as goal

abbrev pub invariant-loop-k : goal.invariant-loop-k
invariant-loop-k l = (l.lab ≡ up_to (joined_by l.s l.pts l.keys l.n) l.k l.initial.lab) × Own l.n l.top l.lab
