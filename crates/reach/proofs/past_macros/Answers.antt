use Rattle.std.proofs.Common.{sym, ap, ◌∙◌, arith}
use Rattle.plane.specs.declared.Macro.{Macro}
use Rattle.turned.specs.Turned.{face}
use Rattle.turned.proofs.StepLaws.{up_start, up_next}
use Rattle.reach.specs.Passing.{past_face}
use Rattle.reach.proofs.HopelessLaws.{macros-end, macros-stop}
use Rattle.reach.proofs.past_macros.Goals as goal

pub loop-i-init : goal.loop-i-init
loop-i-init c = up_start _ _

pub returns-then-is_hopeless : goal.returns-then-is_hopeless
returns-then-is_hopeless c =
    macros-stop _ _ _ _ _ _ c.loop-i.invariant (omega arith) (sym c.is_hopeless.ensures ∙ c.if-is_hopeless.true)

pub loop-i-preserved : goal.loop-i-preserved
loop-i-preserved c =
    let s = c.args in
    up_next _ _ _ _ _ c.loop-i.invariant
    (c.past_macro-way.ensures ∙ ap (λ (m : Macro). past_face s.bar (face s.bar.side m) c.loop-i.way) c.macro_at.ensures)

pub returns : goal.returns
returns c = macros-end _ _ _ _ _ _ c.loop-i.invariant (omega arith) (omega arith)
