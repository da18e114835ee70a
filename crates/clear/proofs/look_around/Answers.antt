use Rattle.std.proofs.Common.{◌∙◌, sym, ap, arith}
use Rattle.lists.proofs.AnyLaws.{any-hit, any-miss, any-end}
use Rattle.plane.specs.declared.Macro.{Macro}
use Rattle.plane.specs.Macro.{meets}
use Rattle.plane.specs.Flat.{macros_of}
use Rattle.plane.proofs.FlatLaws.{macros-next, macros-end}
use Rattle.plane.proofs.MacroLaws.{clear-is}
use Rattle.clear.proofs.look_around.Goals as goal

pub returns-then-box_meets : goal.returns-then-box_meets
returns-then-box_meets c =
    let next = macros-next c.args.macros.now c.loop-i.i (omega arith) in
    let met = sym (c.box_meets.ensures ∙ ap (λ (m : Macro). meets c.args.a c.args.b m) c.macro_at.ensures) in
    clear-is _ _ (macros_of c.args.macros.now)
    (c.loop-i.invariant ∙ any-hit _ _ _ _ next (met ∙ c.if-box_meets.true))

pub loop-i-preserved : goal.loop-i-preserved
loop-i-preserved c =
    let next = macros-next c.args.macros.now c.loop-i.i (omega arith) in
    let met = sym (c.box_meets.ensures ∙ ap (λ (m : Macro). meets c.args.a c.args.b m) c.macro_at.ensures) in
    c.loop-i.invariant ∙ any-miss _ _ _ _ next (met ∙ c.if-box_meets.false)

pub returns : goal.returns
returns c =
    clear-is _ _ (macros_of c.args.macros.now)
    (c.loop-i.invariant ∙ any-end _ _ (macros-end c.args.macros.now c.loop-i.i (omega arith)))
