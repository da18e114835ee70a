-- Its three calls are the definitions' three stages, and each leaves what the next one asks.
use Rattle.forest.proofs.LabelLaws.{fine-unlabelled, fine-starts, fine-settled}
use Rattle.forest.proofs.ForestLaws.{staged}
use Rattle.forest.proofs.forest.Goals as goal

pub settle-requires : goal.settle-requires
settle-requires c =
    (c.requires.fits.0, (fine-starts _ _ _ _ c.start.ensures c.requires.fits.1.1.1 (rw c.requires.root_value.0 fine-unlabelled)).low)

pub adopt-requires-clause-fits : goal.adopt-requires-clause-fits
adopt-requires-clause-fits c =
    let begun = fine-starts _ _ _ _ c.start.ensures c.requires.fits.1.1.1 (rw c.requires.root_value.0 fine-unlabelled) in
    (c.requires.fits.0, ((fine-settled _ _ _ _ _ c.settle.ensures begun).low, c.requires.fits.1.0))

pub returns : goal.returns
returns c =
    let all = staged _ _ _ _ _ _ _ c.requires.root_value.0 c.start.ensures c.settle.ensures c.adopt.ensures in
    record { root_after = all.0; via_after = all.1 }
