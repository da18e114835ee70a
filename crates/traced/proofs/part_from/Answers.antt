use Rattle.std.proofs.Common.{refl, sym, ◌∙◌, inl, inr, arith}
use Rattle.traced.specs.Routes.{meets}
use Rattle.traced.proofs.RouteLaws.{parts_more}
use Rattle.traced.proofs.part_from.Goals as goal

pub loop-p-init : goal.loop-p-init
loop-p-init c = λ q a h. let z : ⊥ = omega (arith, a, h) in absurd z

pub loop-p-preserved : goal.loop-p-preserved
loop-p-preserved c = parts_more (meets _ _ _ _) _ c.loop-p.invariant (sym c.meets.ensures ∙ c.if-meets.false)

pub returns-then-meets : goal.returns-then-meets
returns-then-meets c = (omega arith, inl (omega arith, (c.loop-p-test.true, sym c.meets.ensures ∙ c.if-meets.true)))

pub returns : goal.returns
returns c = inr (refl, λ q a h. c.loop-p.invariant q a (omega (arith, h, c.loop-p-test.false)))
