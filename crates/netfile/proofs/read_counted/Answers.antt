-- `netfile::read_counted` meets its contract: the lists of an accepted file fit.
-- Assumes nothing.
use Rattle.std.proofs.Common.{sym, length}
use Rattle.net.specs.Answer.{told_by}
use Rattle.netfile.proofs.AnswerLaws.{lists-fit}
use Rattle.netfile.proofs.read_counted.Goals as goal

pub take_lists-requires : goal.take_lists-requires
unfolding told_by
take_lists-requires c =
    let a = c.args in
    (c.requires.0.0, lists-fit a.bytes.now (length a.pins.now) (length a.macros.now) _ (sym c.in_ok-net.ensures) c.requires.1)
