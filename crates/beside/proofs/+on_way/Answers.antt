-- `beside::on_way` meets its contract: it recurses along parents, and the distance is the number that falls at each call.
-- Assumes nothing.
use Rattle.std.proofs.Common.{◌∙◌, sym, le-ltb}
use Rattle.beside.proofs.BesideLaws.{way-stop, way-here, way-there}
use Rattle.beside.proofs.+on_way.Goals as goal

pub returns-then-is_same_place : goal.returns-then-is_same_place
returns-then-is_same_place t c =
    c.if-is_same_place.true
    ∙ way-here _ _ _ _ _ c.requires.0 c.requires.1 c.if-y-lt-VERTICES.true _ c.place_at.ensures
    (sym c.is_same_place.ensures ∙ c.if-is_same_place.true)

pub returns-else-is_same_place : goal.returns-else-is_same_place
returns-else-is_same_place t c =
    c.on_way.ensures
    ∙ way-there _ _ _ _ _ c.requires.0 c.requires.1 c.if-y-lt-VERTICES.true _ c.place_at.ensures
    (sym c.is_same_place.ensures ∙ c.if-is_same_place.false)

pub returns-else-y-lt-VERTICES : goal.returns-else-y-lt-VERTICES
returns-else-y-lt-VERTICES t c = le-ltb _ _ c.if-y-lt-VERTICES.false ∙ way-stop _ _ _ _ _ c.if-y-lt-VERTICES.false
