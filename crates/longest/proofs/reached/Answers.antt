-- A pass that hangs nothing is the last that changes anything.
use Rattle.std.proofs.Common.{arith}
use Rattle.longest.proofs.HungLaws.{passing-start, passing-still, passing-next, passing-end}
use Rattle.longest.proofs.reached.Goals as goal

pub loop-init : goal.loop-init
loop-init c = (omega arith, λ el n r few w h. passing-start _ _ _ _ _ _ _ h)

pub returns-then-d-c : goal.returns-then-d-c
returns-then-d-c c el n r few w h =
    let g = c.loop.invariant.1 el n r few w h in
    let m = c.pass-d.ensures.by_index el n _ few w g.hung in
    passing-still _ _ _ _ _ _ _ _ _ _ g c.if-d-c.true m.0 m.1

pub loop-preserved : goal.loop-preserved
loop-preserved c = (
  omega (arith, c.pass-d.ensures.lower_bound),
  λ el n r few w z.
      let g = c.loop.invariant.1 el n r few w z in
      passing-next _ _ _ _ _ _ _ _ _ _ g (omega arith) (c.pass-d.ensures.by_index el n _ few w g.hung).0,
)

pub returns : goal.returns
returns c el n r few w h = passing-end _ _ _ _ _ _ _ _ (c.loop.invariant.1 el n r few w h) (omega arith)
