use Rattle.std.proofs.Common.{arith}
use Rattle.grid.proofs.PassLaws.{passed_none, passed-fewer, across-in, along-in, on-across, on-along, held-row}
use Rattle.grid.proofs.pass_on.Goals as goal

pub loop-v-init : goal.loop-v-init
loop-v-init c = passed_none _ _ _ _ (λ v w d h. omega (arith, h.1.0))

pub lower-moved-requires : goal.lower-moved-requires
lower-moved-requires c =
    let f = c.requires in
    let a = across-in _ _ f.0 _ c.loop-v-test.true in
    record { row = (held-row _ _ _ f.1 c.loop-v.invariant.held, a.0); v_lt_crossing_bound = λ is. ((a.1 is).1, (a.1 is).0) }

pub lower-moved-requires-in-loop-v : goal.lower-moved-requires-in-loop-v
lower-moved-requires-in-loop-v c =
    let f = c.requires in
    let h = c.loop-v-test.true in
    let p = on-across _ _ f.0 _ h _ _ _ f.1 _ _ c.loop-v.invariant c.lower-moved.ensures in
    let a = along-in _ _ f.0 _ h in
    record { row = (held-row _ _ _ f.1 p.held, a.0); v_lt_crossing_bound = λ is. ((a.1 is).1, (a.1 is).0) }

pub loop-v-preserved : goal.loop-v-preserved
loop-v-preserved c =
    let f = c.requires in
    let h = c.loop-v-test.true in
    let p = on-across _ _ f.0 _ h _ _ _ f.1 _ _ c.loop-v.invariant c.lower-moved.ensures in
    on-along _ _ f.0 _ h _ _ _ f.1 _ _ p c.lower-moved-in-loop-v.ensures

pub returns : goal.returns
returns c =
    let even = c.requires.0.even in
    let h = c.loop-v-test.false in
    passed-fewer _ _ _ _ _ _ _ (λ v w d i. (i.0, (omega (arith, i.1.0, h, even), i.1.1))) c.loop-v.invariant
