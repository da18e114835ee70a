use Rattle.std.proofs.Common.{◌∙◌, rules}
use Rattle.moves.proofs.MovingLaws.{weigh-flat, weigh-steep}
use Rattle.moves.proofs.weight_of.Goals as goal
use Rattle.moves.proofs.weight_of.Goals.{then-is_horizontal, else-is_horizontal}

pub returns : goal.returns
returns c =
    elim c.if-is_horizontal.branch [
      | then-is_horizontal w ↦
          let e = c.from.ensures ∙ w.from-is in
          (e ∙ weigh-flat _ _ _ c.is_horizontal.ensures w.if-is_horizontal.true, rw e (search rules))
      | else-is_horizontal w ↦
          let e = c.from.ensures ∙ w.from-is in
          (e ∙ weigh-steep _ _ _ c.is_horizontal.ensures w.if-is_horizontal.false, rw e (search rules))
    ]
