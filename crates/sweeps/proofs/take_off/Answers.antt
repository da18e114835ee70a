use Rattle.std.proofs.Common.{◌≤◌, arith}
use Rattle.grid.specs.Rows.{at}
use Rattle.sweeps.proofs.TableLaws as laws
use Rattle.sweeps.proofs.take_off.Goals as goal

pub returns-then-t-low : goal.returns-then-t-low
returns-then-t-low c = laws.off-high _ _ _ _ c.if-t-low.true

pub returns-then-s-eq0 : goal.returns-then-s-eq0
returns-then-s-eq0 c = laws.off-none _ _ _ _ c.if-s-eq0.true

pub overflow_cast-left : goal.overflow_cast-left
overflow_cast-left c =
    let some : 1 ≤ at c.args.left.now c.args.a = omega (arith, c.if-s-eq0.false) in
    omega (
      arith,
      c.requires.arcs_fit.0.low c.args.a,
      laws.fall-fits c.args.row.now c.args.left.now c.args.t c.args.a c.source.result c.min-high.result c.if-t-low.false some
          c.source.ensures c.min-high.ensures (c.requires.a_bound some),
    )

pub overflow_sub-left-then-low-high : goal.overflow_sub-left-then-low-high
overflow_sub-left-then-low-high c =
    let some : 1 ≤ at c.args.left.now c.args.a = omega (arith, c.if-s-eq0.false) in
    omega (
      arith,
      c.requires.arcs_fit.0.low c.args.a,
      laws.fall-fits c.args.row.now c.args.left.now c.args.t c.args.a c.source.result c.min-high.result c.if-t-low.false some
          c.source.ensures c.min-high.ensures (c.requires.a_bound some),
    )

pub returns-then-low-high : goal.returns-then-low-high
returns-then-low-high c =
    laws.off-some _ _ _ _ _ _ c.if-t-low.false (omega (arith, c.if-s-eq0.false)) c.source.ensures c.min-high.ensures
    (omega (arith, c.requires.arcs_fit.0.size, c.requires.arcs_fit.1.1))

pub returns-else-low-high : goal.returns-else-low-high
returns-else-low-high c =
    laws.off-level _ _ _ _ _ _ c.if-t-low.false (omega (arith, c.if-s-eq0.false)) c.source.ensures c.min-high.ensures c.if-low-high.false
