use Rattle.std.proofs.Common.{sym, ◌∙◌, arith}
use Rattle.lists.proofs.TestLaws.{differ}
use Rattle.traced.proofs.RouteLaws.{other-inside, leads-none, leads-away, leads-there}
use Rattle.traced.proofs.leads.Goals as goal
use Rattle.traced.proofs.leads.Goals.{then-c-ne0, else-c-ne0}

pub offset_bounds-row-other_end : goal.offset_bounds-row-other_end
offset_bounds-row-other_end c =
    elim c.if-c-ne0.branch [
      | then-c-ne0 w ↦
          omega (
            arith,
            c.other_end.ensures,
            other-inside c.args.costs.now c.args.e c.args.k c.args.v c.requires.fits.0 c.requires.fits.1
                (omega (arith, w.if-c-ne0.true)),
          )
      | else-c-ne0 w ↦ differ c.if-touches.true (rw w.if-c-ne0.false at w.value-is)
    ]

pub bounds-row-other_end : goal.bounds-row-other_end
bounds-row-other_end c =
    elim c.if-c-ne0.branch [
      | then-c-ne0 w ↦
          omega (
            arith,
            c.other_end.ensures,
            other-inside c.args.costs.now c.args.e c.args.k c.args.v c.requires.fits.0 c.requires.fits.1
                (omega (arith, w.if-c-ne0.true)),
          )
      | else-c-ne0 w ↦ differ c.if-touches.true (rw w.if-c-ne0.false at w.value-is)
    ]

pub returns-then-touches : goal.returns-then-touches
returns-then-touches c =
    elim c.if-c-ne0.branch [
      | then-c-ne0 w ↦
          leads-there _ _ _ _ (omega (arith, w.if-c-ne0.true)) (sym w.touches.ensures ∙ sym w.value-is ∙ c.if-touches.true) _
          c.other_end.ensures
      | else-c-ne0 w ↦ differ c.if-touches.true (rw w.if-c-ne0.false at w.value-is)
    ]

pub returns-else-touches : goal.returns-else-touches
returns-else-touches c =
    elim c.if-c-ne0.branch [
      | then-c-ne0 w ↦
          c.if-touches.false ∙ sym (leads-away _ _ _ _ (sym w.touches.ensures ∙ sym w.value-is ∙ c.if-touches.false))
      | else-c-ne0 w ↦ c.if-touches.false ∙ sym (leads-none _ _ _ _ w.if-c-ne0.false)
    ]
