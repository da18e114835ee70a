-- `text::cost` meets its contract: a cost is below 2^41, so it is an i64.
-- Assumes nothing.
use mathlib.Core.Path.{ap, ◌∙◌}
use native.Mathlib.Omega.{arith}
use lib.IntN.{pos}
use mir.Syntax.{w64}
use mir.ValLaws.{to_z_pos}
use borrow.Author.Rules.{rules}
use Rattle.text.proofs.cost.Statement.{statement}
use Rattle.text.proofs.cost.Tie as tie

cast-result : tie.Need-overflow_cast-result
cast-result c = record { sfits = omega (arith, c.cost.ensures.1) }

returns : tie.Need-returns
returns c = to_z_pos w64 c.cost.result (omega (arith, c.cost.ensures.1)) ∙ ap pos c.cost.ensures.0

pub cost_spec : {M : Type 1} → statement M
cost_spec = tie.close (tie.spec (λ c κs. search rules) cast-result returns)
