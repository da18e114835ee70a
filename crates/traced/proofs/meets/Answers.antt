use Rattle.std.proofs.Common.{sym, ◌∙◌}
use Rattle.traced.proofs.RouteLaws.{meets-none, meets-there}
use Rattle.traced.proofs.meets.Goals as goal

pub returns-else-is_part : goal.returns-else-is_part
returns-else-is_part c =
    let no = c.if-is_part.false in
    no ∙ sym (meets-none _ _ _ _ _ (sym c.is_part.ensures ∙ no))

pub returns-then-is_part : goal.returns-then-is_part
returns-then-is_part c = meets-there _ _ _ _ _ (sym c.is_part.ensures ∙ c.if-is_part.true) _ c.sum_at.ensures
