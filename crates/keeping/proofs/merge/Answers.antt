use Rattle.std.proofs.Common.{◌<◌, length, get_or, ap, ◌∙◌, arith, set}
use Rattle.std.proofs.lemmas.List.{get_or_default}
use Rattle.std.proofs.lemmas.List.Edits.{map_over_more}
use Rattle.joined.specs.Table.{changed}
use Rattle.keeping.proofs.KeptLaws.{changed-yes, changed-no}
use Rattle.keeping.proofs.merge.Goals as goal
use Rattle.keeping.proofs.merge.Goals.{then-x-b, else-x-b}

pub loop-x-preserved : goal.loop-x-preserved
loop-x-preserved c =
    let g = c.loop-x.group in
    let i = c.loop-x.x-index in
    let h : i < length g = omega arith in
    let x = get_or g i 0 in
    let step = map_over_more (changed c.args.a c.args.b) c.args.group.now g i x (omega arith) c.loop-x.invariant (get_or_default g i 0 x h) in
    elim c.if-x-b.branch [
      | then-x-b w ↦ w.group-is ∙ ap (set g i) (changed-yes _ _ _ w.if-x-b.true) ∙ step
      | else-x-b w ↦ w.group-is ∙ ap (set g i) (changed-no _ _ _ w.if-x-b.false) ∙ step
    ]
