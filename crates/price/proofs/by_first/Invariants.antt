-- The bands that are left decide, and none of them has a rate above the highest.
use Rattle.std.proofs.Common.{◌≡◌, false, drop}
use Rattle.lists.specs.Any.{any}
use Rattle.bands.specs.Band.{bands_of}
use Rattle.bands.specs.Tests.{rate_above}
use Rattle.price.specs.Charge.{by_first}
use Rattle.price.proofs.by_first.Given as goal

abbrev pub invariant-loop-i : goal.invariant-loop-i
invariant-loop-i l =
    (by_first l.metal (bands_of l.bands) ≡ by_first l.metal (drop l.i (bands_of l.bands)))
    × (any rate_above (drop l.i (bands_of l.bands)) ≡ false)
