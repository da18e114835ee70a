use Rattle.std.proofs.Common.{◌≡◌}
use Rattle.turned.specs.Steps.{up_to, set_by}
use Rattle.labels.proofs.number.Given as goal

abbrev pub invariant-loop-i : goal.invariant-loop-i
invariant-loop-i l = l.lab ≡ up_to (set_by (λ j x. j)) l.i l.initial.lab
