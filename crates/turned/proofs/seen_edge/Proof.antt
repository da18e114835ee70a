-- `turned::seen_edge` meets its contract, each answer by the law of its case.
-- Assumes nothing.
use Rattle.turned.specs.Turned.{view}
use Rattle.turned.proofs.CodeLaws.{seen-is}
use borrow.Author.Rules.{rules}
use Rattle.turned.proofs.seen_edge.Statement.{statement}
use Rattle.turned.proofs.seen_edge.Tie as tie

returns : tie.Need-returns
returns c = (
  seen-is (view c.args.pts.now
      c.args.keys.now
      c.args.lab.now c.args.s
      c.args.l) _ _ _ _ _ _
      c.first_end-a.ensures.0 c.second_end-b.ensures.0
      c.spot_at.ensures.0 c.spot_at-2.ensures.0,
  (c.spot_at.ensures.1, c.spot_at-2.ensures.1),
)

pub seen_edge_spec : {M : Type 1} → statement M
seen_edge_spec =
    tie.close
    (tie.spec
    (λ c κs. search rules) (λ c κs. search rules) (λ c. search rules) (λ c. search rules) (λ c. search rules)
    (λ c. search rules) (λ c κs. search rules) (λ c κs. search rules)
    returns)
