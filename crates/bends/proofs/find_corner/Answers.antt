use Rattle.std.proofs.Common.{sym, ap, ◌∙◌, Some}
use Rattle.lent.specs.Entries.{entries}
use Rattle.plane.specs.Flat.{place_from}
use Rattle.slide.specs.Bend.{taken}
use Rattle.bends.proofs.BendingLaws.{corner-x, corner-y, corner-none}
use Rattle.bends.proofs.find_corner.Goals as goal

pub returns-then-not-is_taken : goal.returns-then-not-is_taken
returns-then-not-is_taken c =
    let X = entries place_from 2 c.args.pts.now c.args.n in
    let told = c.is_taken.ensures ∙ ap (taken X) c.x_first-c.ensures in
    ap Some c.x_first-c.ensures ∙ sym (corner-x X (c.args.a, c.args.b) (sym told ∙ c.if-not-is_taken.true))

pub returns-then-is_taken : goal.returns-then-is_taken
returns-then-is_taken c =
    let X = entries place_from 2 c.args.pts.now c.args.n in
    let told-x = c.is_taken.ensures ∙ ap (taken X) c.x_first-c.ensures in
    let told-y = c.is_taken-2.ensures ∙ ap (taken X) c.y_first-d.ensures in
    sym (corner-none X (c.args.a, c.args.b) (sym told-x ∙ c.if-not-is_taken.false) (sym told-y ∙ c.if-is_taken.true))

pub returns-else-is_taken : goal.returns-else-is_taken
returns-else-is_taken c =
    let X = entries place_from 2 c.args.pts.now c.args.n in
    let told-x = c.is_taken.ensures ∙ ap (taken X) c.x_first-c.ensures in
    let told-y = c.is_taken-2.ensures ∙ ap (taken X) c.y_first-d.ensures in
    ap Some c.y_first-d.ensures
    ∙ sym (corner-y X (c.args.a, c.args.b) (sym told-x ∙ c.if-not-is_taken.false) (sym told-y ∙ c.if-is_taken.false))
