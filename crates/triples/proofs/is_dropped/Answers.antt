-- A point that is taken is the first such one, and without any the search ends past the last.
use Rattle.std.proofs.Common.{◌∙◌, sym, arith}
use Rattle.std.proofs.lemmas.Bool.{lt-ltb, le-ltb}
use Rattle.lists.proofs.TurnLaws.{seek_stop, seek-next, seek-end}
use Rattle.triples.proofs.TripleLaws.{dropped-is}
use Rattle.triples.proofs.is_dropped.Goals as goal

pub returns-then-is_taken : goal.returns-then-is_taken
returns-then-is_taken c =
    sym (lt-ltb c.loop-i.i c.args.n (omega arith))
    ∙ dropped-is _ _ _ _ _ _ _ (seek_stop _ _ _ _ c.loop-i.invariant (omega arith) (sym c.is_taken.ensures ∙ c.if-is_taken.true))

pub loop-i-preserved : goal.loop-i-preserved
loop-i-preserved c = seek-next _ _ _ _ c.loop-i.invariant (omega arith) (sym c.is_taken.ensures ∙ c.if-is_taken.false)

pub returns : goal.returns
returns c =
    sym (le-ltb c.loop-i.i c.args.n (omega arith))
    ∙ dropped-is _ _ _ _ _ _ _ (seek-end _ _ _ _ c.loop-i.invariant (omega arith))
