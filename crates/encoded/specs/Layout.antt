-- The layout of a net file: rules F2 to F18 and F24 to F26.
use Rattle.std.specs.Prelude.{Bool, cond, ◌||◌, List, [], ◌++◌, ℕ, zero, suc, ◌+◌, ◌/◌, ℤ, pos, length, take, drop}
use Rattle.std.specs.Int.Signed.{lt_z}
use Rattle.lists.specs.Any.{any}
use Rattle.lent.specs.Entries.{flat}
use Rattle.plane.specs.declared.Weights.{Weights}
use Rattle.plane.specs.Flat.{place_numbers}
use Rattle.net.specs.Bounds.{pin_width, macro_width}
use Rattle.net.specs.Pins.{pin_places, pin_loads, macro_count}
use Rattle.blocks.specs.Sizes.{per_block, pin_kind, macro_kind, loaded_kind, place_width, blocks_for}
use Rattle.blocks.specs.Words.{bytes_of}
use Rattle.blocks.specs.Block.{head_block, list_block}

-- F13: the words of the next n blocks of a list, numbered from `number` on, entries in the list's order
unfoldable pub list_blocks : ℕ → ℕ → ℕ → ℕ → List ℤ → List ℕ
list_blocks kind w number zero numbers = []
list_blocks kind w number (suc n) numbers =
    list_block kind w number (take per_block numbers) ++ list_blocks kind w (suc number) n (drop per_block numbers)

-- the blocks of a whole list, the first of them numbered `first`
abbrev pub all_blocks : ℕ → ℕ → ℕ → List ℤ → List ℕ
all_blocks kind w first numbers = list_blocks kind w first (blocks_for (length numbers)) numbers

-- Pins as they are stored [11]: the kind of their blocks, how many numbers an entry has, and the numbers of all entries
pub record Stored : Type 0 where
  pub kind : ℕ
  pub width : ℕ
  pub numbers : List ℤ

-- some pin has a load, be it out of range
unfoldable pub is_load : ℤ → Bool
is_load z = lt_z z (pos 0) || lt_z (pos 0) z

unfoldable pub loaded : List ℤ → Bool
loaded pins = any is_load (pin_loads pins)

-- F24, F25: with their loads where one has a load, as places alone where none has
abbrev pub with_loads : List ℤ → Stored
with_loads pins = record { kind = loaded_kind; width = pin_width; numbers = pins }

abbrev pub places_alone : List ℤ → Stored
places_alone pins = record { kind = pin_kind; width = place_width; numbers = flat place_numbers (pin_places pins) }

unfoldable pub stored : List ℤ → Stored
stored pins = cond (loaded pins) (with_loads pins) (places_alone pins)

-- F2, F6, F7: pins from block 1 on, and macros behind them
abbrev pub pin_blocks : Stored → List ℕ
pin_blocks s = all_blocks s.kind s.width 1 s.numbers

abbrev pub macro_blocks : Stored → List ℤ → List ℕ
macro_blocks s macros = all_blocks macro_kind macro_width (1 + blocks_for (length s.numbers)) macros

-- F13: the head, then pins, then macros
unfoldable pub file_words : Weights → Stored → List ℤ → List ℕ
file_words w s macros = head_block (length s.numbers / s.width) (macro_count macros) w ++ (pin_blocks s ++ macro_blocks s macros)

-- the file of two weights, of pins as they are stored and of a flat list of macros
unfoldable pub laid_bytes : Weights → Stored → List ℤ → List ℕ
laid_bytes w s macros = bytes_of (file_words w s macros)

-- the file of two weights and two flat lists
abbrev pub file_bytes : Weights → List ℤ → List ℤ → List ℕ
file_bytes w pins macros = laid_bytes w (stored pins) macros
