use Rattle.std.proofs.Common.{◌∙◌, ◌+◌, ◌-◌, ◌/◌, sym, ap, arith}
use Rattle.plane.specs.declared.Place.{Place}
use Rattle.plane.specs.Place.{before}
use Rattle.plane.proofs.RankLaws.{rank_is, ahead_of, none_after}
use Rattle.plane.proofs.rank.Goals as goal

pub loop-low-preserved-then-is_before : goal.loop-low-preserved-then-is_before
loop-low-preserved-then-is_before c =
    let i = c.loop-low.invariant in
    let s = c.args in
    let asked = ap (λ (v : Place). before v s.p) (sym c.place_at.ensures) ∙ sym c.is_before.ensures ∙ c.if-is_before.true in record {
      ordered = (omega (arith, c.loop-low-test.true), i.ordered.1);
      ahead = ahead_of s.places.now s.n s.p c.requires.1 (c.loop-low.low + (c.loop-low.high - c.loop-low.low) / 2)
          (omega (arith, c.loop-low-test.true, i.ordered)) asked;
      after = i.after;
    }

pub loop-low-preserved : goal.loop-low-preserved
loop-low-preserved c =
    let i = c.loop-low.invariant in
    let s = c.args in
    let asked = ap (λ (v : Place). before v s.p) (sym c.place_at.ensures) ∙ sym c.is_before.ensures ∙ c.if-is_before.false in record {
      ordered = (omega arith, omega (arith, c.loop-low-test.true, i.ordered));
      ahead = i.ahead;
      after = none_after s.places.now s.n s.p c.requires.1 (c.loop-low.low + (c.loop-low.high - c.loop-low.low) / 2)
          (omega (arith, c.loop-low-test.true, i.ordered)) asked;
    }

pub returns : goal.returns
returns c =
    let i = c.loop-low.invariant in (
      rank_is _ _ _ _ (omega (arith, i.ordered)) i.ahead (λ u h k. i.after u (omega (arith, h, c.loop-low-test.false)) k),
      omega (arith, i.ordered),
    )
