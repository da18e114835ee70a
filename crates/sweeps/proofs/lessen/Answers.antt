use Rattle.std.proofs.Common.{◌≡◌, arith}
use Rattle.sweeps.proofs.TableLaws as laws
use Rattle.sweeps.proofs.lessen.Goals as goal

pub loop-a-init : goal.loop-a-init
loop-a-init c = laws.lessened-none _ _ _

pub take_off-requires : goal.take_off-requires
take_off-requires c =
    let f = c.requires.arcs_fit in
    let h = c.loop-a-test.true in
    let e = c.loop-a.invariant.others c.loop-a.a (omega arith) in
    record {
      arcs_fit = (laws.lessened-fit _ _ _ _ _ f.0 c.loop-a.invariant, (f.1.0, omega (arith, h, f.1.1)));
      a_bound = λ k.
          let z = laws.quiet-fall c.args.left.now c.args.row.now c.args.t c.loop-a.a (c.requires.quiet c.loop-a.a h) (omega (arith, k, e)) in
          omega (arith, z, e);
    }

pub loop-a-preserved : goal.loop-a-preserved
loop-a-preserved c = laws.lessened-step _ _ _ _ _ _ c.loop-a.invariant c.take_off.ensures

pub returns : goal.returns
returns c = let n : c.loop-a.a ≡ c.args.e = omega (arith, c.loop-a-test.false) in rw (← n) c.loop-a.invariant
