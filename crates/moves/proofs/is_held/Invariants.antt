use Rattle.std.proofs.Common.{◌≡◌, false, ◌||◌, get_or}
use Rattle.turned.specs.Steps.{up_to}
use Rattle.turned.specs.Turned.{on_it}
use Rattle.moves.specs.Moving.{label_view}
use Rattle.moves.proofs.is_held.Given as goal

abbrev pub invariant-loop-i : goal.invariant-loop-i
invariant-loop-i l =
    false ≡ up_to (λ j t. t || on_it (label_view l.lab l.l) (get_or l.seats j 0)) l.i false
