-- What is left of the greatest cost is compared piece by piece, so that no sum is made.
use Rattle.std.proofs.Common.{◌∙◌, ◌-◌, sym, arith}
use Rattle.std.proofs.lemmas.Bool.{le-ltb, ltb-true, ltb-false}
use Rattle.lists.proofs.TestLaws.{differ}
use Rattle.triples.proofs.TripleLaws.{may-gain-not, may-gain-is}
use Rattle.triples.proofs.may_gain.Goals as goal
use Rattle.triples.proofs.may_gain.Goals.{then-f-most, else-f-most}

pub returns-then-g-most : goal.returns-then-g-most
returns-then-g-most c =
    c.is_near_box.ensures
    ∙ may-gain-is _ _ _ _ _ _
    (elim c.if-f-most.branch [
      | then-f-most w ↦ let l = ltb-true c.args.g (c.args.most - c.args.f) (sym w.value-is ∙ c.if-g-most.true) in omega arith
      | else-f-most w ↦ differ c.if-g-most.true (w.value-is ∙ le-ltb _ _ w.if-f-most.false)
    ])

pub returns-else-g-most : goal.returns-else-g-most
returns-else-g-most c =
    c.if-g-most.false
    ∙ may-gain-not _ _ _ _ _ _
    (elim c.if-f-most.branch [
      | then-f-most w ↦ let l = ltb-false c.args.g (c.args.most - c.args.f) (sym w.value-is ∙ c.if-g-most.false) in omega arith
      | else-f-most w ↦ omega arith
    ])
