-- Bands of a flat list: the next one and the end of a scan.
-- Assumes nothing.
use mathlib.Core.Path.{◌≡◌}
use mathlib.Core.List.{List, [], ◌∷◌}
use Prim.Native.Nat.{ℕ, ◌+◌, ◌*◌, ◌≤◌, ◌<◌}
use lib.ListN.{length, drop}
use Rattle.lists.proofs.EntryLaws.{twos-next, twos-end}
use Rattle.bands.specs.Band.{band, bands_of, band_at}

pub bands-next : (s : List ℕ) (i : ℕ) → i * 2 + 2 ≤ length s → drop i (bands_of s) ≡ band_at s i ∷ drop (i + 1) (bands_of s)
unfolding bands_of
bands-next = twos-next 0 band

pub bands-end : (s : List ℕ) (i : ℕ) → length s < i * 2 + 2 → drop i (bands_of s) ≡ []
unfolding bands_of
bands-end = twos-end 0 band
