use Rattle.std.proofs.Common.{arith}
use Rattle.best.proofs.GivenLaws.{given-none, given-more, given-end, given-room}
use Rattle.best.proofs.put_edges.Goals as goal

pub loop-j-init : goal.loop-j-init
loop-j-init c = given-none _ _ _ _

pub put_marked-count-requires : goal.put_marked-count-requires
put_marked-count-requires c =
    let a = c.args in
    let h = c.loop-j-test.true in
    let few = c.requires.e_le_segment_bound in
    let room = c.requires.e_in_bounds in
    record {
      j_lt_segment_bound = (omega (arith, h, few.0), few.1 _ h);
      count_in_bounds = λ k.
          let r = given-room a.xs.now a.ys.now a.used.now c.loop-j.j a.e h k in
          omega (arith, r, c.loop-j.invariant.counted, room);
    }

pub loop-j-preserved : goal.loop-j-preserved
loop-j-preserved c =
    given-more _ _ _ _ _ _ _ _ _ _ c.loop-j-test.true c.requires.e_in_bounds c.loop-j.invariant c.put_marked-count.ensures

pub returns : goal.returns
returns c =
    let all = given-end _ _ _ _ _ _ _ _ (omega arith) c.loop-j-test.false c.loop-j.invariant in
    record { value = all.0; edges_after = all.1 }
