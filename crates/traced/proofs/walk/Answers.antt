use Rattle.std.proofs.Common.{arith}
use Rattle.traced.proofs.RouteLaws.{walk_none, walk_more, walk_end, step-none, step-some, step_down, step-inside}
use Rattle.traced.proofs.walk.Goals as goal

pub loop-k-init : goal.loop-k-init
loop-k-init c = (c.requires.row.1, walk_none _ _ _ _ _)

pub loop-k-smaller : goal.loop-k-smaller
loop-k-smaller c =
    let found = c.in-Some.ensures in
    step_down _ _ _ _ _ (step-some _ _ _ _ _ found.0 found.1) c.other_end-u.ensures

pub loop-k-preserved : goal.loop-k-preserved
loop-k-preserved c =
    let found = c.in-Some.ensures in
    let lead = step-some _ _ _ _ _ found.0 found.1 in
    let inside = step-inside _ _ _ _ _ _ c.requires.fits.0 found.0 lead c.other_end-u.ensures in
    let size = c.loop-k.invariant.1.marks.size in (
      inside,
      walk_more _ _ _ _ _ _ _ _ _ _ found.0 lead c.in_order.ensures.0 (omega (arith, c.in_order.ensures.1, size))
          c.other_end-u.ensures c.loop-k.invariant.1,
    )

pub returns : goal.returns
returns c =
    let none = step-none _ _ _ _ _ (omega arith) c.in_default.ensures in
    (walk_end _ _ _ _ _ _ _ none c.loop-k.invariant.1, c.loop-k.invariant.0)
