-- The point at hand is the next of those before, or the first that is new.
use Rattle.std.proofs.Common.{◌∙◌, sym, arith}
use Rattle.bounds.proofs.NumberLaws.{no-fresh, finding-next, finding-fresh, finding-end}
use Rattle.bounds.proofs.numbers.Goals as goal
use Rattle.bounds.proofs.numbers.Goals.{then-is_next, else-is_next+else-is_some}

pub loop-j-preserved : goal.loop-j-preserved
loop-j-preserved c =
    let i = c.loop-j.invariant in
    elim c.if-is_next.branch [
      | then-is_next w ↦
          let n = c.is_next.ensures w.if-is_next.true in
          rw (w.at-is, w.fresh-is, w.i-is) (
            i.0,
            finding-next _ _ _ _ c.requires.0.1 c.requires.0.0 _ _ _ _ i.1 (omega arith) n.0 (sym c.point_at.ensures ∙ n.1),
          )
      | else-is_next+else-is_some w ↦
          rw (w.at-is, w.fresh-is, w.i-is) (
            omega arith,
            finding-fresh _ _ _ _ c.requires.0.1 c.requires.0.0 _ _ _ _ i.1 (omega arith)
                (no-fresh c.loop-j.fresh c.args.n (sym w.is_some.ensures ∙ w.if-is_some.false)),
          )
    ]

pub returns-then-i-m-clause-numbered : goal.returns-then-i-m-clause-numbered
returns-then-i-m-clause-numbered c = (
  c.loop-j.invariant.0,
  finding-end _ _ _ _ c.requires.0.1 c.requires.0.0 _ _ _ _ c.loop-j.invariant.1 (omega arith) c.if-i-m.true,
)
