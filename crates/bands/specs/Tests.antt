-- The tests of a list for 31: rule C31.
use Rattle.std.specs.Prelude.{Bool, not, ◌||◌, List, ℕ, ◌/◌, ◌%◌, eqb, ltb, length}
use Rattle.bands.specs.declared.Band.{Band}

-- C31: the highest rate
abbrev pub rate_bound : ℕ
rate_bound = 1000000

-- C31: not whole pairs, or no band
unfoldable pub bands_miscounted : List ℕ → Bool
bands_miscounted s = not (eqb (length s % 2) 0) || eqb (length s / 2) 0

-- C31, for one band: its rate is above the highest
unfoldable pub rate_above : Band → Bool
rate_above b = ltb rate_bound b.rate
