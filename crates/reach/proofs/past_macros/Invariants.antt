use Rattle.std.proofs.Common.{◌≡◌}
use Rattle.plane.specs.Flat.{macro_at}
use Rattle.turned.specs.Steps.{up_to}
use Rattle.turned.specs.Turned.{face}
use Rattle.reach.specs.Passing.{past_face}
use Rattle.reach.proofs.past_macros.Given as goal

abbrev pub invariant-loop-i : goal.invariant-loop-i
invariant-loop-i l =
    l.way ≡ up_to (λ j. past_face l.bar (face l.bar.side (macro_at l.macros j))) l.i l.initial.way
