use Rattle.std.proofs.Common.{◌≡◌}
use Rattle.joined.specs.Table.{changed}
use Rattle.turned.specs.Steps.{up_to, set_by}
use Rattle.labels.proofs.merge.Given as goal

abbrev pub invariant-loop-i : goal.invariant-loop-i
invariant-loop-i l = l.lab ≡ up_to (set_by (λ j x. changed l.a l.b x)) l.i l.initial.lab
