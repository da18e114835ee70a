use Rattle.grid.proofs.PassLaws.{both-none, both-more, held-row}
use Rattle.grid.proofs.pass_both.Goals as goal

pub returns-else-pass_back : goal.returns-else-pass_back
returns-else-pass_back c =
    let none = c.if-pass_back.false in
    rw none (both-none _ _ _ _ _ none c.requires.quiet c.pass_back.ensures)

pub pass_on-requires : goal.pass_on-requires
pass_on-requires c = (c.requires.fits.0, held-row _ _ _ c.requires.fits.1 c.pass_back.ensures.held)

pub returns-then-pass_back : goal.returns-then-pass_back
returns-then-pass_back c = both-more _ _ _ _ _ _ _ c.if-pass_back.true c.pass_back.ensures c.pass_on.ensures
