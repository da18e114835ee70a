-- The numbers of the net file: those that the format has of its own (F1 to F12, F17), each named once, and those that follow from them and
-- from the net's bounds.
use Rattle.std.specs.Prelude.{ℕ, ◌+◌, ◌-◌, ◌*◌, ◌/◌}
use Rattle.net.specs.Bounds.{Bounds, today, pin_bound, macro_bound, pin_width, macro_width}

-- The format's own

-- F1: a block's words, and four bytes a word
abbrev pub block_words : ℕ
block_words = 128

abbrev pub block_bytes : ℕ
block_bytes = block_words * 4

-- F11, F12: the words before the two sums, which is where the first of these stands, and the place of the second
abbrev pub summed_words : ℕ
summed_words = block_words - 2

abbrev pub second_sum : ℕ
second_sum = summed_words + 1

-- F6: the word at which entries begin; F9, F17: the head has m, k and the two weights there
abbrev pub first_entry : ℕ
first_entry = 4

abbrev pub pin_count_word : ℕ
pin_count_word = first_entry

abbrev pub macro_count_word : ℕ
macro_count_word = first_entry + 1

abbrev pub first_weight_word : ℕ
first_weight_word = first_entry + 2

abbrev pub second_weight_word : ℕ
second_weight_word = first_entry + 3

-- F6, F7, F24: the numbers of a full block, whatever its entries are: 60 pins of two, 40 of three, 30 macros of four. It is the format's
-- own and no consequence of the words between the entries' first and the sums: these are 122, and 61 pins would fit.
abbrev pub per_block : ℕ
per_block = 120

-- F2: what a block is
abbrev pub head_kind : ℕ
head_kind = 1

abbrev pub pin_kind : ℕ
pin_kind = 2

abbrev pub macro_kind : ℕ
macro_kind = 3

-- F24: pins with their loads [11]
abbrev pub loaded_kind : ℕ
loaded_kind = 4

-- F6: the numbers of a pin that is stored without its load: x and y
abbrev pub place_width : ℕ
place_width = 2

-- What follows

-- F6, F7, F24: the entries of a full block
abbrev pub pins_per_block : ℕ
pins_per_block = per_block / place_width

abbrev pub loaded_per_block : ℕ
loaded_per_block = per_block / pin_width

abbrev pub macros_per_block : ℕ
macros_per_block = per_block / macro_width

-- C71: the numbers of the longest lists that a net may have
abbrev pub pin_list_bound : ℕ
pin_list_bound = pin_bound * pin_width

abbrev pub macro_list_bound : ℕ
macro_list_bound = macro_bound * macro_width

-- n shared out in groups of d, the last one perhaps not full
abbrev pub groups : ℕ → ℕ → ℕ
groups n d = (n + (d - 1)) / d

-- how many blocks n numbers take. F14: all but the last are full; F15: none for no numbers, and no block is empty
unfoldable pub blocks_for : ℕ → ℕ
blocks_for n = groups n per_block

-- F16: the blocks of a file of n numbers of pins and k of macros
abbrev pub block_count : ℕ → ℕ → ℕ
block_count n k = 1 + blocks_for n + blocks_for k

-- F16: the blocks of the longest file, whose pins have loads, and its bytes
abbrev pub file_blocks_within : Bounds → ℕ
file_blocks_within b = 1 + groups b.pins loaded_per_block + groups b.macros macros_per_block

abbrev pub file_blocks : ℕ
file_blocks = file_blocks_within today

abbrev pub file_bound : ℕ
file_bound = file_blocks * block_bytes

-- the numbers that its blocks after the head have room for: no list of a file has more
abbrev pub file_numbers : ℕ
file_numbers = (file_blocks - 1) * per_block

-- and the numbers of as many pins, were they all stored without loads: no list of pins read from a file has more
abbrev pub file_pins : ℕ
file_pins = file_numbers / place_width * pin_width
