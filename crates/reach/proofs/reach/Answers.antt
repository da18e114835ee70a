use Rattle.std.proofs.Common.{◌∙◌, true}
use Rattle.reach.specs.Passing.{seen_by, way_of, way}
use Rattle.reach.specs.Hopeless.{Alike}
use Rattle.reach.proofs.CodeLaws.{reach-free, reach-stop}
use Rattle.reach.proofs.HopelessLaws.{way-alike, near-reached, reached-less}
use Rattle.reach.proofs.reach.Goals as goal
use Rattle.reach.proofs.reach.Goals.{After-past_edges-u}

-- the whole way
whole : (c : After-past_edges-u) → let s = c.args in
    Alike s.need (way s.bar.most true) c.past_edges-u.result
    (way_of (seen_by s.pts.now s.keys.now s.lab.now s.bar) s.z.points s.z.edges s.macros.now s.bar)
whole c =
    let s = c.args in
    way-alike s.need (seen_by s.pts.now s.keys.now s.lab.now s.bar) s.z.edges s.bar s.z.points
    s.macros.now _ _ _ c.past_macros-w.ensures c.past_points-v.ensures c.past_edges-u.ensures

pub returns-then-u : goal.returns-then-u
returns-then-u c =
    let s = c.args in
    let w = whole c.before in
    let q = reach-free _ _ c.if-u.true in record {
      near = near-reached s.need s.bar _ _ _ _ w q;
      upper_bound = reached-less s.need s.bar _ _ w.less q;
    }

pub returns-else-u : goal.returns-else-u
returns-else-u c =
    let s = c.args in
    let w = whole c.before.before in
    let q = c.saturating_sub.ensures ∙ reach-stop _ _ c.if-u.false in record {
      near = near-reached s.need s.bar _ _ _ _ w q;
      upper_bound = reached-less s.need s.bar _ _ w.less q;
    }
