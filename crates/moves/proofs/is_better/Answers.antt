use Rattle.std.proofs.Common.{sym, ap₂, ◌∙◌, Bool, not, ◌&&◌}
use Rattle.moves.proofs.MovingLaws.{better-unlike, better-placed, better-beside}
use Rattle.moves.proofs.is_better.Goals as goal

pub returns-then-m-n : goal.returns-then-m-n
returns-then-m-n c = better-unlike _ _ c.if-m-n.true

pub returns-then-is_same_place : goal.returns-then-is_same_place
returns-then-is_same_place c =
    ap₂ (λ (x y : Bool). x && not y) c.is_horizontal.ensures c.is_horizontal-then-is_same_place.ensures
    ∙ better-beside _ _ c.if-m-n.false (sym c.is_same_place.ensures ∙ c.if-is_same_place.true)

pub returns-else-is_same_place : goal.returns-else-is_same_place
returns-else-is_same_place c =
    c.is_before.ensures ∙ better-placed _ _ c.if-m-n.false (sym c.is_same_place.ensures ∙ c.if-is_same_place.false)
