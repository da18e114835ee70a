use Rattle.std.proofs.Common.{◌≡◌}
use Rattle.turned.specs.Steps.{up_to}
use Rattle.turned.specs.Turned.{on_it}
use Rattle.moves.specs.Moving.{label_view, chosen}
use Rattle.moves.proofs.last_of.Given as goal

abbrev pub invariant-loop-i : goal.invariant-loop-i
invariant-loop-i l =
    up_to (λ j x. chosen (on_it (label_view l.lab l.l) j) j x) l.n l.l
    ≡ up_to (λ j x. chosen (on_it (label_view l.lab l.l) j) j x) l.i l.l
