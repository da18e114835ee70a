use Rattle.std.proofs.Common.{refl, inr, ap, ap₂, ◌∙◌, ◌*◌}
use Rattle.std.proofs.lemmas.List.Edits.{sets}
use Rattle.plane.specs.declared.Place.{Place}
use Rattle.graph.specs.Numbers.{edge_numbers}
use Rattle.lines.specs.Edges.{Edge}
use Rattle.best.proofs.put_marked.Goals as goal

pub returns-in-Some : goal.returns-in-Some
returns-in-Some c =
    let ends = c.in-Some.ensures in
    let edge = ap₂ (λ (x y : Place). (x, y)) ends.1.0 ends.1.1 in
    inr (ends.0, (refl, c.put_edge.ensures ∙ ap (λ (d : Edge). sets c.args.edges.now (c.args.count * 4) (edge_numbers d)) edge))
