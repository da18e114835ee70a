use Rattle.std.proofs.Common.{sym, ap, ◌∙◌, arith}
use Rattle.turned.specs.declared.Seen.{Seen}
use Rattle.turned.proofs.StepLaws.{up_start, up_next}
use Rattle.reach.specs.Passing.{seen_by, past}
use Rattle.reach.proofs.HopelessLaws.{points-end, points-stop}
use Rattle.reach.proofs.past_points.Goals as goal

pub loop-i-init : goal.loop-i-init
loop-i-init c = up_start _ _

pub returns-then-is_hopeless : goal.returns-then-is_hopeless
returns-then-is_hopeless c =
    points-stop _ _ _ _ _ _ _ _ c.loop-i.invariant (omega arith) (sym c.is_hopeless.ensures ∙ c.if-is_hopeless.true)

pub loop-i-preserved : goal.loop-i-preserved
loop-i-preserved c =
    let s = c.args in
    up_next _ _ _ _ _ c.loop-i.invariant
    (c.past-way.ensures
    ∙ ap (λ (t : Seen). past (seen_by s.pts.now s.keys.now s.lab.now s.bar) s.z.edges s.bar t c.loop-i.way) c.seen_point-t.ensures)

pub returns : goal.returns
returns c = points-end _ _ _ _ _ _ _ _ c.loop-i.invariant (omega arith) (omega arith)
