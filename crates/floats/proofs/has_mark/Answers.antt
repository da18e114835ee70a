use Rattle.std.proofs.Common.{◌∙◌, sym, arith}
use Rattle.floats.proofs.MarkLaws.{mark-stop, mark-next, mark-end}
use Rattle.floats.proofs.has_mark.Goals as goal

pub returns-then-is_marked_pin : goal.returns-then-is_marked_pin
returns-then-is_marked_pin c =
    mark-stop _ _ _ _ _ c.loop-i.invariant (omega arith) (sym c.is_marked_pin.ensures ∙ c.if-is_marked_pin.true)

pub loop-i-preserved : goal.loop-i-preserved
loop-i-preserved c = mark-next _ _ _ _ _ c.loop-i.invariant (omega arith) (sym c.is_marked_pin.ensures ∙ c.if-is_marked_pin.false)

pub returns : goal.returns
returns c = mark-end _ _ _ _ _ c.loop-i.invariant (omega arith)
