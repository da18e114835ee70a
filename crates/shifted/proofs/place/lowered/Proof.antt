-- `shifted::place::lowered` meets its contract: the sum fits, as is asked.
-- Assumes nothing.
use mathlib.Core.Path.{ap₂, ◌∙◌}
use borrow.Author.Rules.{rules}
use lib.IntN.{◌-ℤ◌}
use mir.Syntax.{w32}
use mir.ValLaws.{to_z-of_z}
use Rattle.shifted.proofs.PlaceLaws.{word}
use Rattle.shifted.proofs.place.lowered.Statement.{statement}
use Rattle.shifted.proofs.place.lowered.Tie as tie

sub-result : tie.Need-overflow_sub-result
sub-result c = rw (to_z-of_z w32 _ c.ranges.z, word c.args.d c.requires.0) c.requires.1

returns : tie.Need-returns
returns c = to_z-of_z w32 _ (sub-result c) ∙ ap₂ ◌-ℤ◌ (to_z-of_z w32 _ c.ranges.z) (word c.args.d c.requires.0)

pub lowered_spec : {M : Type 1} → statement M
lowered_spec = tie.close (tie.spec (λ c. search rules) sub-result returns)
