use Rattle.std.proofs.Common.{◌∙◌, ap, arith, length, ◌*◌}
use Rattle.picks.proofs.PassLaws.{second-left, third-left, first-right, fourth-right}
use Rattle.links.specs.Links.{four_picks}
use Rattle.links.proofs.PickTable.{length-sets, held_none, held_more}
use Rattle.links.proofs.put_picks.Goals as goal

pub loop-k-init : goal.loop-k-init
loop-k-init c = record { long = omega arith; held = held_none _ _ _ _ }

pub picks-above-requires-clause-on_left : goal.picks-above-requires-clause-on_left
picks-above-requires-clause-on_left c = (second-left, first-right)

pub picks-below-requires-clause-on_left : goal.picks-below-requires-clause-on_left
picks-below-requires-clause-on_left c = (third-left, fourth-right)

pub loop-k-preserved : goal.loop-k-preserved
loop-k-preserved c =
    let above = c.picks-above in
    let below = c.picks-below in record {
      long = ap length c.put_four.ensures
          ∙ length-sets c.loop-k.picked (c.loop-k.k * 4) (four_picks above.result below.result)
          ∙ c.loop-k.invariant.long;
      held = rw c.put_four.ensures
          (held_more _ _ _ c.loop-k.k above.result below.result
          above.ensures.right_value above.ensures.left_value below.ensures.left_value below.ensures.right_value
          c.loop-k.picked c.loop-k.invariant.long (omega (arith, c.requires.ascending.1)) c.loop-k.invariant.held);
    }
