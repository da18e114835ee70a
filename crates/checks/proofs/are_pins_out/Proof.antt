-- `checks::are_pins_out` meets its contract: places and loads are tested as the definition says.
-- Assumes nothing.
use borrow.Author.Rules.{rules}
use mathlib.Core.Path.{ap₂}
use mathlib.Core.Bool.{◌||◌}
use Rattle.net.specs.Tests.{pins_out_of_range}
use Rattle.checks.proofs.are_pins_out.Statement.{statement}
use Rattle.checks.proofs.are_pins_out.Tie as tie

returns : tie.Need-returns
unfolding pins_out_of_range
returns c = ap₂ ◌||◌ c.any_place_out.ensures c.any_no_load.ensures

pub are_pins_out_spec : {M : Type 1} → statement M
are_pins_out_spec = tie.close (tie.spec (λ c κs. search rules) (λ c κs. search rules) returns)
