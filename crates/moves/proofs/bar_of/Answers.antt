use Rattle.std.proofs.Common.{[]}
use Rattle.turned.specs.Turned.{view}
use Rattle.moves.specs.Moving.{last_on}
use Rattle.moves.proofs.MovingLaws.{bar-is}
use Rattle.moves.proofs.bar_of.Goals as goal

pub returns : goal.returns
unfolding last_on
returns c =
    bar-is (view c.args.pts.now [] c.args.lab.now c.args.s c.args.l) _ _ _ _ _ c.last_of.ensures.0 c.spot_at-first.ensures.0
    c.spot_at-last.ensures.0
