use Rattle.std.proofs.Common.{◌≡◌}
use Rattle.slide.specs.declared.Side.TheVariants.{Above, Right}
use Rattle.turned.specs.Steps.{up_to}
use Rattle.bars.specs.Offers.{offered_both, no_move}
use Rattle.bars.proofs.search.search_by.Given as goal

abbrev pub invariant-loop-k : goal.invariant-loop-k
invariant-loop-k l =
    l.c
    ≡ up_to
    (λ j d. offered_both l.pts l.keys l.columns l.z l.macros l.seats Right j
    (offered_both l.pts l.keys l.rows l.z l.macros l.seats Above j d)) l.k no_move
