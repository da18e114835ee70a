use Rattle.std.proofs.Common.{ap, arith}
use Rattle.lists.specs.Total.{total}
use Rattle.lists.proofs.TestLaws.{by}
use Rattle.sweeps.proofs.TableLaws as laws
use Rattle.sweeps.proofs.settle.Goals as goal

pub loop-n-init : goal.loop-n-init
loop-n-init c = laws.settle-none _ _ _ _ _ _ c.requires.arcs_fit.1.0 c.requires.above

pub pass_down-requires : goal.pass_down-requires
pass_down-requires c = let f = c.requires.arcs_fit in (f.0, (c.loop-n.invariant.is_row, f.1.1))

pub pass_up-more-requires : goal.pass_up-more-requires
pass_up-more-requires c = let f = c.requires.arcs_fit in (f.0, (c.pass_down.ensures.row, f.1.1))

pub nearest-cap-requires : goal.nearest-cap-requires
nearest-cap-requires c =
    let f = c.requires.n_bound in
    record { row = (c.pass_up-more.ensures.row, (f.0, f.1.0)); below = f.1.1 }

pub loop-n-smaller : goal.loop-n-smaller
loop-n-smaller c =
    let up = c.pass_up-more.ensures.less c.if-not-more.false in
    by c.pass_down.result (λ e. omega (arith, up, c.pass_down.ensures.less e))
    (λ e. let same = ap total (c.pass_down.ensures.same e) in omega (arith, up, same))

pub loop-n-preserved : goal.loop-n-preserved
loop-n-preserved c =
    rw c.if-not-more.false at (laws.settle-more _ _ _ _ _ _ _ _ _ _ _ _ _ _ c.loop-n.invariant
    c.pass_down.ensures c.pass_up-more.ensures c.nearest-cap.ensures)

pub returns-then-not-more : goal.returns-then-not-more
returns-then-not-more c =
    let end = laws.settle-more _ _ _ _ _ _ _ _ _ _ _ _ _ _ c.loop-n.invariant c.pass_down.ensures c.pass_up-more.ensures
    c.nearest-cap.ensures in
    record { row = (end.is_row, end.above); least_at = end.done c.if-not-more.true }
