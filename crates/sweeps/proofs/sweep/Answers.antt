use Rattle.std.proofs.Common.{arith}
use Rattle.sweeps.proofs.TableLaws as laws
use Rattle.sweeps.proofs.sweep.Goals as goal

pub loop-i-init : goal.loop-i-init
loop-i-init c =
    let f = c.requires.arcs_fit in
    record { low = omega arith; fit = f.0; size = f.1.0; raised = laws.sweep-none _ _ _ _ }

pub raise-sum-requires : goal.raise-sum-requires
raise-sum-requires c =
    let l = c.loop-i.invariant in
    let m = c.requires.m_bound in
    record {
      arcs_fit = (l.fit, (l.size, c.requires.arcs_fit.1.1));
      i_bound = (omega (arith, m.0, c.loop-i.auto, c.loop-i-test.true), m.1);
    }

pub overflow_add-sum : goal.overflow_add-sum
overflow_add-sum c =
    let m = c.requires.m_bound.0 in
    let t = c.raise-sum.ensures.least_at.0.most in
    omega (arith, c.loop-i.invariant.low, c.loop-i-test.true, m, t)

pub loop-i-preserved : goal.loop-i-preserved
loop-i-preserved c =
    let l = c.loop-i.invariant in
    let h = c.loop-i-test.true in
    let r = c.raise-sum.ensures in
    record {
      low = omega (arith, l.low, h, r.least_at.0.most);
      fit = r.arcs_fit_2;
      size = r.row.0.size;
      raised = laws.sweep-step _ _ _ _ _ _ _ _ _ _ _ (omega (arith, h)) (omega (arith, h)) r.row.0 r.row.1.0 r.row.1.1 r.least_at.0
          r.least_at.1 l.raised;
    }

pub returns : goal.returns
returns c =
    let l = c.loop-i.invariant in
    record { swept_table = laws.sweep-end _ _ _ _ _ _ _ (omega (arith, c.loop-i-test.false)) l.raised; row_len = (l.size, l.fit) }
