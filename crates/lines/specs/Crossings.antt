-- Crossings by number: `line_bound` numbers for each line across, so that an index is linear whatever the net.
use Rattle.std.specs.Prelude.{Bool, ◌&&◌, List, ℕ, ◌+◌, ◌*◌, ℤ}
use Rattle.std.specs.Int.Signed.{lt_z}
use Rattle.lists.specs.Any.{any}
use Rattle.lists.specs.Sorted.{position}
use Rattle.signed.specs.Order.{z_eq}
use Rattle.plane.specs.declared.Place.{Place}
use Rattle.lines.specs.Bounds.{line_bound}

-- a place is a crossing
unfoldable pub is_crossing : List ℤ → List ℤ → Place → Bool
is_crossing xs ys v = any (z_eq v.x) xs && any (z_eq v.y) ys

-- the number of a crossing, with n numbers for each line across; numbers go as places do
abbrev pub number_by : ℕ → List ℤ → List ℤ → Place → ℕ
number_by n xs ys v = position lt_z xs v.x * n + position lt_z ys v.y

unfoldable pub crossing_number : List ℤ → List ℤ → Place → ℕ
crossing_number xs ys v = position lt_z xs v.x * line_bound + position lt_z ys v.y
