use Rattle.std.proofs.Common.{sym, ap}
use mathlib.Core.Logic.{inl, inr}
use Rattle.slide.specs.Side.{horizontal}
use Rattle.moves.proofs.MovingLaws.{not-flat}
use Rattle.moves.proofs.is_horizontal.Goals as goal

pub returns-in-Above : goal.returns-in-Above
unfolding horizontal
returns-in-Above c = elim c.in-Above.is [ inl e ↦ sym (ap horizontal e) | inr e ↦ sym (ap horizontal e) ]

pub returns-in_default : goal.returns-in_default
returns-in_default c = not-flat _ c.in_default.not-Above c.in_default.not-Below
