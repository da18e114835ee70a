use Rattle.forest.proofs.ParentLaws.{adopt-none, adopt-more, adopt-end}
use Rattle.forest.proofs.adopt.Goals as goal

pub loop-k-init : goal.loop-k-init
loop-k-init c = adopt-none _ _ _ c.requires.fits.1.1 _ c.requires.via_value

pub loop-k-preserved : goal.loop-k-preserved
loop-k-preserved c =
    adopt-more _ _ _ c.requires.fits.1.1 _ _ c.loop-k.invariant _ _ c.loop-k-test.true c.adopt_by.ensures c.adopt_by-in-loop-k.ensures

pub returns : goal.returns
returns c = adopt-end _ _ _ c.requires.fits.1.1 _ _ c.loop-k.invariant c.loop-k-test.false
