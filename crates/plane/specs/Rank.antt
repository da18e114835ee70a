-- Places in order in a flat list, and where a place stands among them.
use Rattle.std.specs.Prelude.{◌≡◌, Bool, true, not, List, ℕ, ◌<◌, ℤ}
use Rattle.lists.specs.Turns.{seek}
use Rattle.plane.specs.declared.Place.{Place}
use Rattle.plane.specs.Place.{before}
use Rattle.plane.specs.Flat.{place_at}

-- the first n places are in order, each once
abbrev pub InOrder : List ℤ → ℕ → Type 0
InOrder s n = (i j : ℕ) → i < j → j < n → before (place_at s i) (place_at s j) ≡ true

-- how many of the first n places, which are in order, come before p: the number of the first that does not
unfoldable pub later : List ℤ → Place → ℕ → Bool
later s p i = not (before (place_at s i) p)

unfoldable pub rank : List ℤ → ℕ → Place → ℕ
rank s n p = seek (later s p) 0 n
