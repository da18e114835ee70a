use Rattle.std.proofs.Common.{refl, arith}
use Rattle.terminal.proofs.GiveLaws.{give-none, give-more}
use Rattle.terminal.proofs.give_paths.Goals as goal

pub loop-i-init : goal.loop-i-init
loop-i-init c = give-none _ _ _ _

pub loop-i-preserved : goal.loop-i-preserved
loop-i-preserved c =
    give-more _ _ _ _ _ _ _ _ _ _ c.loop-i.invariant c.place_at-a.ensures c.place_at-b.ensures refl c.put_path.ensures
    (omega (arith, c.loop-i-test.true, c.requires.space))
