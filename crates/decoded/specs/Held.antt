-- What a file holds, as it is read: its blocks and their sums (C1, C2), the words of its head (C3), and its weights and lists (C72, F26
-- [11]).
use Rattle.std.specs.Prelude.{◌≡◌, Bool, not, cond, ◌||◌, List, [], ◌∷◌, ℕ, zero, suc, ◌+◌, ◌*◌, ◌/◌, ◌%◌, ◌≤◌, eqb, ltb, ℤ, length, take, drop, get_or}
use Rattle.lists.specs.Any.{any}
use Rattle.plane.specs.declared.Weights.{Weights}
use Rattle.plane.specs.Flat.{places_of}
use Rattle.net.specs.Bounds.{Bounds, today, weight_bound, pin_width, macro_width}
use Rattle.net.specs.Pins.{flat_pins}
use Rattle.blocks.specs.Sizes.{block_words, block_bytes, first_entry, pin_count_word, macro_count_word, first_weight_word, second_weight_word}
use Rattle.blocks.specs.Sizes.{per_block, loaded_kind, place_width, blocks_for, block_count, file_blocks_within, file_bound}
use Rattle.blocks.specs.Words.{words_of, coordinate, weight_in}
use Rattle.blocks.specs.Sums.{wrong_sums}

-- C1: the length is not that of whole blocks, from one to those of the longest file

unfoldable pub blocks_miscounted_within : Bounds → List ℕ → Bool
blocks_miscounted_within b bytes =
    not (eqb (length bytes % block_bytes) 0) || (eqb (length bytes / block_bytes) 0 || ltb (file_blocks_within b) (length bytes / block_bytes))

abbrev pub blocks_miscounted : List ℕ → Bool
blocks_miscounted = blocks_miscounted_within today

-- the first n blocks
unfoldable pub blocks_of : ℕ → List ℕ → List (List ℕ)
blocks_of zero words = []
blocks_of (suc n) words = take block_words words ∷ blocks_of n (drop block_words words)

-- C2: in some block a sum is wrong
unfoldable pub sums_wrong : List ℕ → Bool
sums_wrong bytes = any wrong_sums (blocks_of (length bytes / block_bytes) (words_of bytes))

-- a word of the head
unfoldable pub head_word : ℕ → List ℕ → ℕ
head_word i bytes = get_or (words_of bytes) i 0

-- F26: the block after the head is one of pins with loads. The head does not tell, so this is asked of every file; where it counts no
-- pin it makes no difference what that block is [11]
unfoldable pub loaded_in : List ℕ → Bool
loaded_in bytes = eqb (get_or (words_of bytes) block_words 0) loaded_kind

-- F9: how many numbers are stored for the pins and for the macros, by m and k in the head
unfoldable pub pin_length : List ℕ → ℕ
pin_length bytes = cond (loaded_in bytes) (head_word pin_count_word bytes * pin_width) (head_word pin_count_word bytes * place_width)

abbrev pub macro_length : List ℕ → ℕ
macro_length bytes = head_word macro_count_word bytes * macro_width

-- F17: the two weights, by the head
abbrev pub weights_in : List ℕ → Weights
weights_in bytes = record {
  across = weight_in (head_word first_weight_word bytes);
  along = weight_in (head_word second_weight_word bytes);
}

-- F6, F14: the word of the number j among those of its list's blocks
abbrev pub place_in : ℕ → ℕ
place_in j = j / per_block * block_words + (first_entry + j % per_block)

-- the number j of a list whose blocks begin at the block b
unfoldable pub number_in : List ℕ → ℕ → ℕ → ℤ
number_in bytes b j = coordinate (get_or (words_of bytes) (b * block_words + place_in j) 0)

-- n numbers of such a list, from the one numbered j on
unfoldable pub numbers_in : List ℕ → ℕ → ℕ → ℕ → List ℤ
numbers_in bytes b j zero = []
numbers_in bytes b j (suc n) = number_in bytes b j ∷ numbers_in bytes b (suc j) n

-- the lists that a file holds: as many pins and macros as its head says, the pins from block 1 on, the macros in the blocks after theirs
unfoldable pub stored_in : List ℕ → List ℤ
stored_in bytes = numbers_in bytes 1 0 (pin_length bytes)

-- pins are three numbers each, however they are stored: those of places alone have a load of 0 [11]
unfoldable pub pins_in : List ℕ → List ℤ
pins_in bytes = cond (loaded_in bytes) (stored_in bytes) (flat_pins (places_of (stored_in bytes)))

unfoldable pub macros_in : List ℕ → List ℤ
macros_in bytes = numbers_in bytes (1 + blocks_for (pin_length bytes)) 0 (macro_length bytes)

-- C3: the head's counts do not fit the blocks that there are
unfoldable pub counts_wrong : List ℕ → Bool
counts_wrong bytes = not (eqb (length bytes / block_bytes) (block_count (pin_length bytes) (macro_length bytes)))

-- C3, F18: a word that stands for a weight is above the greatest. A written 1 is below: it is refused because the layout makes a 0 of it.
unfoldable pub weights_miswritten : List ℕ → Bool
weights_miswritten bytes = ltb weight_bound (head_word first_weight_word bytes) || ltb weight_bound (head_word second_weight_word bytes)

-- C3: the head's own words, before anything is read by them
unfoldable pub head_wrong : List ℕ → Bool
head_wrong bytes = counts_wrong bytes || weights_miswritten bytes

-- a file of as many bytes as n numbers of pins and k of macros take, and no longer than the longest; the code's own condition
pub record Sized (bytes : List ℕ) (n k : ℕ) : Type 0 where
  pub few : length bytes ≤ file_bound
  pub fit : length bytes ≡ block_count n k * block_bytes
