-- Read a net file: rules C71 to C74, and F26 [11].
use Rattle.std.specs.Prelude.{Bool, cond, ◌||◌, List, ℕ, ◌*◌, ltb, ℤ}
use Rattle.lent.specs.Told.{Told, refused}
use Rattle.plane.specs.declared.Weights.{Weights}
use Rattle.net.specs.declared.Net.{Net as Counts}
use Rattle.net.specs.Bounds.{Bounds, today, pin_width, macro_width}
use Rattle.net.specs.Net.{handed}
use Rattle.checks.specs.Check.{checked_within}
use Rattle.encoded.specs.Layout.{file_bytes}
use Rattle.encoded.specs.Same.{same_numbers}
use Rattle.decoded.specs.Held.{blocks_miscounted_within, sums_wrong, weights_in, pins_in, macros_in, head_wrong}

-- C3: the file is not the one that the layout makes of the weights and lists that it holds. C73: after that, the net's own refusals.
unfoldable pub laid_out_within : Bounds → List ℕ → Weights → List ℤ → List ℤ → Told Counts
laid_out_within b bytes w pins macros =
    cond (same_numbers bytes (file_bytes w pins macros)) (checked_within b (handed w) pins macros) (refused 3)

abbrev pub laid_out : List ℕ → Weights → List ℤ → List ℤ → Told Counts
laid_out = laid_out_within today

-- so for the weights and lists that a file holds
abbrev pub answer_within : Bounds → List ℕ → Told Counts
answer_within b bytes = laid_out_within b bytes (weights_in bytes) (pins_in bytes) (macros_in bytes)

abbrev pub answer_in : List ℕ → Told Counts
answer_in = answer_within today

-- C71: fewer numbers for pins or for macros than the longest lists have
unfoldable pub room_short_within : Bounds → ℕ → ℕ → Bool
room_short_within b pin_room macro_room = ltb pin_room (b.pins * pin_width) || ltb macro_room (b.macros * macro_width)

abbrev pub room_short : ℕ → ℕ → Bool
room_short = room_short_within today

-- C71, C52: the answer of a read into `pin_room` and `macro_room` lent numbers, with what the check gives
unfoldable pub read_file_within : Bounds → List ℕ → ℕ → ℕ → Told Counts
read_file_within b bytes pin_room macro_room =
    cond (room_short_within b pin_room macro_room) (refused 21)
    (cond (blocks_miscounted_within b bytes) (refused 1)
    (cond (sums_wrong bytes) (refused 2)
    (cond (head_wrong bytes) (refused 3)
    (answer_within b bytes))))

abbrev pub read_file : List ℕ → ℕ → ℕ → Told Counts
read_file = read_file_within today
