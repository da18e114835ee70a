use Rattle.std.proofs.Common.{ap, ◌∙◌}
use Rattle.turned.specs.declared.Face.{Face}
use Rattle.reach.specs.Passing.{past_face}
use Rattle.reach.proofs.CodeLaws.{face-met, face-not}
use Rattle.reach.proofs.past_macro.Goals as goal

pub returns-then-f-bar : goal.returns-then-f-bar
returns-then-f-bar c =
    let s = c.args in
    let f = c.face_of-f in
    face-met s.bar f.result s.w c.if-f-bar.true _ _ c.saturating_sub-d.ensures c.min.ensures
    ∙ ap (λ (g : Face). past_face s.bar g s.w) f.ensures.0

pub returns-else-f-bar : goal.returns-else-f-bar
returns-else-f-bar c =
    let s = c.args in
    let f = c.face_of-f in
    face-not s.bar f.result s.w c.if-f-bar.false ∙ ap (λ (g : Face). past_face s.bar g s.w) f.ensures.0
