-- `turned::seen_point` meets its contract, each answer by the law of its case.
-- Assumes nothing.
use mathlib.Core.Path.{refl}
use mathlib.Core.List.{[]}
use Rattle.turned.specs.Turned.{view}
use Rattle.turned.proofs.CodeLaws.{seen-is}
use borrow.Author.Rules.{rules}
use Rattle.turned.proofs.seen_point.Statement.{statement}
use Rattle.turned.proofs.seen_point.Tie as tie

returns : tie.Need-returns
returns c = seen-is (view c.args.pts.now [] c.args.lab.now
    c.args.s c.args.l) _ _ _ _ _ _ refl refl
    c.spot_at-p.ensures.0 c.spot_at-p.ensures.0

pub seen_point_spec : {M : Type 1} → statement M
seen_point_spec =
    tie.close
    (tie.spec (λ c κs. search rules) (λ c. search rules) (λ c. search rules) (λ c. search rules) (λ c. search rules) returns)
