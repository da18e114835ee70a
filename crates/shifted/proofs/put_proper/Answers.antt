use Rattle.std.proofs.Common.{refl, sym, ◌∙◌}
use Rattle.slide.specs.Slide.{proper}
use Rattle.shifted.proofs.put_proper.Goals as goal

pub returns-then-is_same_place : goal.returns-then-is_same_place
unfolding proper
returns-then-is_same_place c = rw (proper, sym c.is_same_place.ensures ∙ c.if-is_same_place.true) (refl, refl)

pub returns-else-is_same_place : goal.returns-else-is_same_place
unfolding proper
returns-else-is_same_place c =
    rw (proper, sym c.is_same_place.ensures ∙ c.if-is_same_place.false) (c.put_edge.ensures, refl)
