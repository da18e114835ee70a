use Rattle.std.proofs.Common.{sym, ◌∙◌}
use Rattle.plane.proofs.PlaceLaws.{same_true}
use Rattle.bounds.proofs.is_next.Goals as goal

pub returns-then-i-m : goal.returns-then-i-m
returns-then-i-m c e = (c.if-i-m.true, same_true _ _ (sym c.is_same_place.ensures ∙ e) ∙ c.point_at.ensures)
