use Rattle.std.proofs.Common.{arith}
use Rattle.sweeps.proofs.TableLaws.{lessened-fit}
use Rattle.sweeps.proofs.raise.Goals as goal

pub settle-t-requires : goal.settle-t-requires
settle-t-requires c =
    let f = c.requires in
    let t = c.start.ensures in
    record {
      arcs_fit = (f.arcs_fit.0, (t.0, f.arcs_fit.1.1));
      n_bound = (omega (arith, f.i_bound.0), f.i_bound.1);
      above = t.1 _;
    }

pub returns : goal.returns
returns c =
    let s = c.settle-t.ensures in
    let o = c.lessen.ensures in
    record {
      row = (s.row.0, (s.row.1, s.least_at.1));
      least_at = (s.least_at.0, o);
      arcs_fit_2 = lessened-fit _ _ _ _ _ c.requires.arcs_fit.0 o;
    }
