use Rattle.std.proofs.Common.{◌≡◌, ◌+◌, ◌-◌, sym, ◌∙◌, arith}
use Rattle.parts.proofs.WorkLaws.{part-stop, part-pass, part_end}
use Rattle.parts.proofs.is_part.Goals as goal

pub returns-then-b-a : goal.returns-then-b-a
returns-then-b-a c =
    let h = c.loop-test.true in
    sym (c.loop.invariant ∙ part-stop _ _ _ (omega (arith, h)) c.if-b-a.true)

pub loop-preserved : goal.loop-preserved
loop-preserved c =
    let h = c.loop-test.true in
    let next : c.args.m - c.loop.counter - 1 ≡ c.args.m - (c.loop.counter + 1) = omega arith in
    rw (← next) (c.loop.invariant ∙ part-pass _ _ _ (omega (arith, h)) c.if-b-a.false)

pub returns : goal.returns
returns c = let h = c.loop-test.false in sym (c.loop.invariant ∙ part_end _ _ _ (omega (arith, h)))
