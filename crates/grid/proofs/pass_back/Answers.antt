use Rattle.std.proofs.Common.{◌≡◌, ◌+◌, ◌-◌, ◌/◌, ◌<◌, arith}
use Rattle.grid.proofs.PassLaws.{passed_none, passed-fewer, across-in, along-in, back-across, back-along, held-row}
use Rattle.grid.proofs.pass_back.Goals as goal

pub loop-v-init : goal.loop-v-init
loop-v-init c = let even = c.requires.0.even in passed_none _ _ _ _ (λ v w d h. omega (arith, h.1.0, even))

pub lower-moved-requires : goal.lower-moved-requires
lower-moved-requires c =
    let f = c.requires in
    let h : c.loop-v.v - 1 < c.args.e / 2 = omega (arith, c.loop-v.auto.v, c.loop-v-test.true) in
    let a = along-in _ _ f.0 _ h in
    record { row = (held-row _ _ _ f.1 c.loop-v.invariant.held, a.0); v_lt_crossing_bound = a.1 }

pub lower-moved-requires-in-loop-v : goal.lower-moved-requires-in-loop-v
lower-moved-requires-in-loop-v c =
    let f = c.requires in
    let h : c.loop-v.v - 1 < c.args.e / 2 = omega (arith, c.loop-v.auto.v, c.loop-v-test.true) in
    let n : c.loop-v.v ≡ c.loop-v.v - 1 + 1 = omega (arith, c.loop-v-test.true) in
    let p = back-along _ _ f.0 _ h _ _ _ f.1 _ _ _ n c.loop-v.invariant c.lower-moved.ensures in
    let a = across-in _ _ f.0 _ h in
    record { row = (held-row _ _ _ f.1 p.held, a.0); v_lt_crossing_bound = a.1 }

pub loop-v-preserved : goal.loop-v-preserved
loop-v-preserved c =
    let f = c.requires in
    let h : c.loop-v.v - 1 < c.args.e / 2 = omega (arith, c.loop-v.auto.v, c.loop-v-test.true) in
    let n : c.loop-v.v ≡ c.loop-v.v - 1 + 1 = omega (arith, c.loop-v-test.true) in
    let p = back-along _ _ f.0 _ h _ _ _ f.1 _ _ _ n c.loop-v.invariant c.lower-moved.ensures in
    back-across _ _ f.0 _ h _ _ _ f.1 _ _ p c.lower-moved-in-loop-v.ensures

pub returns : goal.returns
returns c =
    let h = c.loop-v-test.false in
    passed-fewer _ _ _ _ _ _ _ (λ v w d i. (i.0, ((omega (arith, h), i.1.0.1), i.1.1))) c.loop-v.invariant
