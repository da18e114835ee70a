-- The bands that are left decide.
use Rattle.std.proofs.Common.{◌≡◌, drop}
use Rattle.bands.specs.Band.{bands_of}
use Rattle.bands.specs.Order.{falls_back}
use Rattle.bands.proofs.any_step_back.Given as goal

abbrev pub invariant-loop-i : goal.invariant-loop-i
invariant-loop-i l = falls_back (bands_of l.bands) ≡ falls_back (drop l.i (bands_of l.bands))
