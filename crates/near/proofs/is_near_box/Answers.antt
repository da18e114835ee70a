-- How far u lies outside along each axis, at its weight; the gap across decides by itself where it is too far.
use Rattle.std.proofs.Common.{arith, ◌∙◌}
use Rattle.std.proofs.lemmas.Bool.{le-ltb}
use Rattle.std.proofs.lemmas.Int.{to_z-of_z}
use Rattle.near.proofs.BoxLaws.{box-far, box-near}
use Rattle.near.proofs.is_near_box.Goals as goal

pub returns-then-across-limit : goal.returns-then-across-limit
returns-then-across-limit c = box-near _ _ _ _ _ _ (grind (arith, to_z-of_z)) (grind (arith, to_z-of_z)) c.if-across-limit.true

pub returns-else-across-limit : goal.returns-else-across-limit
returns-else-across-limit c = le-ltb _ _ c.if-across-limit.false ∙ box-far _ _ _ _ _ (grind (arith, to_z-of_z)) c.if-across-limit.false
