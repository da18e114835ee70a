-- The bands that are left decide.
use Rattle.std.proofs.Common.{◌≡◌, drop}
use Rattle.lists.specs.Any.{any}
use Rattle.bands.specs.Band.{bands_of}
use Rattle.bands.specs.Tests.{rate_above}
use Rattle.bands.proofs.any_rate_above.Given as goal

abbrev pub invariant-loop-i : goal.invariant-loop-i
invariant-loop-i l = any rate_above (bands_of l.bands) ≡ any rate_above (drop l.i (bands_of l.bands))
