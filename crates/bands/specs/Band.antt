-- Bands in a flat list of numbers, two a band: rule B1.
use Rattle.std.specs.Prelude.{List, ℕ, ◌+◌, ◌*◌, get_or}
use Rattle.lists.specs.Entries.{twos}
use Rattle.bands.specs.declared.Band.{Band}

-- B1: a band by its limit and its rate
abbrev pub band : ℕ → ℕ → Band
band l r = record { limit = l; rate = r }

-- the bands that a flat list holds; a number left over at its end is no band
unfoldable pub bands_of : List ℕ → List Band
unfolding twos
bands_of s = twos band s

-- the band that begins at the number k of a flat list, and the i-th band
abbrev pub band_from : List ℕ → ℕ → Band
band_from s k = band (get_or s k 0) (get_or s (k + 1) 0)

abbrev pub band_at : List ℕ → ℕ → Band
band_at s i = band_from s (i * 2)
