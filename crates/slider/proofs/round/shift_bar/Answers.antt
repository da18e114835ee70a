use Rattle.std.proofs.Common.{◌≡◌, sym, ap, ◌∙◌, subst, List, ℕ}
use Rattle.labels.specs.Labelling.{labels_for}
use Rattle.shifted.specs.Shift.{shifted, Movable}
use Rattle.slider.proofs.RoundLaws.{labels-rows, labels-columns}
use Rattle.slider.proofs.round.shift_bar.Goals as goal
use Rattle.slider.proofs.round.shift_bar.Goals.{then-is_horizontal, else-is_horizontal}

pub shift_edges-requires-clause-movable : goal.shift_edges-requires-clause-movable
shift_edges-requires-clause-movable c =
    let a = c.args in
    let here : c.if-is_horizontal.lab.now ≡ labels_for a.m.side a.rows.now a.columns.now =
    elim c.if-is_horizontal.branch [
      | then-is_horizontal w ↦
          rw w.lab-is (sym (labels-rows a.m.side a.rows.now a.columns.now (sym c.is_horizontal.ensures ∙ w.if-is_horizontal.true)))
      | else-is_horizontal w ↦
          rw w.lab-is (sym (labels-columns a.m.side a.rows.now a.columns.now (sym c.is_horizontal.ensures ∙ w.if-is_horizontal.false)))
    ] in
    (subst (λ (lab : List ℕ). Movable a.m a.pts.now a.z.points lab) (sym here) c.requires.movable.0, c.requires.movable.1)

pub returns : goal.returns
returns c =
    let a = c.args in
    let here : c.if-is_horizontal.lab.now ≡ labels_for a.m.side a.rows.now a.columns.now =
    elim c.if-is_horizontal.branch [
      | then-is_horizontal w ↦
          rw w.lab-is (sym (labels-rows a.m.side a.rows.now a.columns.now (sym c.is_horizontal.ensures ∙ w.if-is_horizontal.true)))
      | else-is_horizontal w ↦
          rw w.lab-is (sym (labels-columns a.m.side a.rows.now a.columns.now (sym c.is_horizontal.ensures ∙ w.if-is_horizontal.false)))
    ] in
    let r = c.shift_edges.ensures in
    (r.0 ∙ ap (λ (lab : List ℕ). shifted a.m a.pts.now lab a.keys.now a.z.edges) here, r.1)
