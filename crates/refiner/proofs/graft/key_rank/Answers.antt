use Rattle.std.proofs.Common.{◌≡◌, ◌∙◌, arith}
use Rattle.lists.proofs.TurnLaws.{seek_stop, seek-next, seek-end}
use Rattle.refiner.specs.Graft.{key_rank}
use Rattle.refiner.proofs.GraftLaws.{not-below-yes, not-below-no}
use Rattle.refiner.proofs.graft.key_rank.Goals as goal

pub returns-then-key-keys : goal.returns-then-key-keys
unfolding key_rank
returns-then-key-keys c = seek_stop _ _ _ _ c.loop-i.invariant (omega arith) (not-below-yes _ _ _ c.if-key-keys.true)

pub loop-i-preserved : goal.loop-i-preserved
loop-i-preserved c = seek-next _ _ _ _ c.loop-i.invariant (omega arith) (not-below-no _ _ _ c.if-key-keys.false)

pub returns : goal.returns
unfolding key_rank
returns c =
    let end : c.args.e ≡ c.loop-i.i = omega arith in
    end ∙ seek-end _ _ _ _ c.loop-i.invariant (omega arith)
