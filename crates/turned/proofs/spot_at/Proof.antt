-- `turned::spot_at` meets its contract, each answer by the law of its case.
-- Assumes nothing.
use mathlib.Core.Path.{ap, ◌∙◌}
use Rattle.plane.specs.declared.Place.{Place}
use Rattle.turned.specs.Turned.{spot}
use borrow.Author.Rules.{rules}
use Rattle.turned.proofs.spot_at.Statement.{statement}
use Rattle.turned.proofs.spot_at.Tie as tie

returns : tie.Need-returns
returns c = (
  c.spot_of.ensures.0 ∙ ap (λ (p : Place). spot c.args.s p) c.point_at.ensures,
  c.spot_of.ensures.1,
)

pub spot_at_spec : {M : Type 1} → statement M
spot_at_spec = tie.close (tie.spec (λ c κs. search rules) (λ c κs. search rules) returns)
