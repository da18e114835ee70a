use Rattle.std.proofs.Common.{ℕ, ◌-◌, ap, ◌∙◌}
use Rattle.reach.proofs.CodeLaws.{past_by, past_near, past-far}
use Rattle.reach.proofs.past.Goals as goal

pub returns-then-is_own-is_in_front : goal.returns-then-is_own-is_in_front
returns-then-is_own-is_in_front c =
    past_by _ _ _ _ _ _ _ c.is_own.ensures c.is_in_front.ensures c.if-is_own-is_in_front.true

pub returns-then-w-d : goal.returns-then-w-d
returns-then-w-d c =
    past_near _ _ _ _ _ _ _ c.is_own.ensures c.is_in_front.ensures c.if-is_own-is_in_front.false _ _
    (c.saturating_sub-d.ensures ∙ ap (λ (z : ℕ). z - c.args.bar.first.across) c.min.ensures) c.min-stop.ensures c.if-w-d.true _
    c.is_exempt-free.ensures

pub returns-else-w-d : goal.returns-else-w-d
returns-else-w-d c =
    past-far _ _ _ _ _ _ _ c.is_own.ensures c.is_in_front.ensures c.if-is_own-is_in_front.false _ _
    (c.saturating_sub-d.ensures ∙ ap (λ (z : ℕ). z - c.args.bar.first.across) c.min.ensures) c.min-stop.ensures c.if-w-d.false
