-- The limits of the format, and a worked net as a file, by computing the definitions: its blocks' first words and sums, and the answers of
-- a read of it and of damaged copies; and so with weights.
-- Assumes nothing.
use mathlib.Core.Path.{◌≡◌, refl}
use mathlib.Core.List.{List, [], ◌∷◌, ◌++◌}
use Prim.Native.Nat.{ℕ, ◌*◌, ◌+◌, ◌-◌}
use lib.IntN.{pos}
use lib.ListN.{take, drop, set}
use Rattle.lent.specs.Told.{Told, refused, given}
use Rattle.lent.specs.Over.{over}
use Rattle.lent.specs.Entries.{flat}
use Rattle.plane.specs.declared.Weights.{Weights}
use Rattle.plane.specs.Cost.{plain}
use Rattle.plane.specs.Flat.{places_of}
use Rattle.net.specs.declared.Net.{Net as Counts}
use Rattle.net.specs.Net.{weighing, plainly}
use Rattle.net.specs.Pins.{flat_pins}
use Rattle.net.specs.Counts.{counted}
use Rattle.net.specs.WorkedNets.{Lists, loaded_pin, around_one}
use Rattle.blocks.specs.Sizes.{block_words, block_bytes, summed_words, pins_per_block, loaded_per_block, macros_per_block, pin_list_bound}
use Rattle.blocks.specs.Sizes.{macro_list_bound, place_width, blocks_for, file_blocks, file_bound}
use Rattle.net.specs.Bounds.{pin_width}
use Rattle.checks.proofs.WorkedChecks.{answer}
use Rattle.blocks.specs.Words.{words_of, bytes_of_word, bytes_of, word_of, coordinate, weight_word, weight_in}
use Rattle.blocks.specs.Sums.{total, running_sums, plain_sum, sum_of_sums, sealed, wrong_sums}
use Rattle.blocks.specs.Block.{block, head_block, list_block}
use Rattle.encoded.specs.Layout.{list_blocks, is_load, loaded, stored, file_words, laid_bytes}
use Rattle.encoded.specs.Same.{same_numbers}
use Rattle.decoded.specs.Held.{blocks_miscounted_within, blocks_of, sums_wrong, head_word, loaded_in, pin_length, number_in, numbers_in, stored_in}
use Rattle.decoded.specs.Held.{pins_in, macros_in, counts_wrong, weights_miswritten, head_wrong}
use Rattle.netfile.specs.Read.{laid_out_within, room_short_within, read_file, read_file_within}

-- the numbers that the document gives, each worked out from the net's bounds and the format's own numbers
pub record Limits : Type 0 where
  pub bytes-a-block : block_bytes ≡ 512
  pub pins-a-block : pins_per_block ≡ 60
  pub loaded-a-block : loaded_per_block ≡ 40
  pub macros-a-block : macros_per_block ≡ 30
  -- 60 pins without a load are one block and 61 two, with loads 40 and 41 [11]
  pub sixty : blocks_for (60 * place_width) ≡ 1
  pub sixty-one : blocks_for (61 * place_width) ≡ 2
  pub forty : blocks_for (40 * pin_width) ≡ 1
  pub forty-one : blocks_for (41 * pin_width) ≡ 2
  pub longest-blocks : file_blocks ≡ 10
  pub longest-bytes : file_bound ≡ 5120
  pub pins-lent : pin_list_bound ≡ 384
  pub macros-lent : macro_list_bound ≡ 512

pub worked-limits : Limits
unfolding blocks_for
worked-limits = record {
  bytes-a-block = refl;
  pins-a-block = refl;
  loaded-a-block = refl;
  macros-a-block = refl;
  sixty = refl;
  sixty-one = refl;
  forty = refl;
  forty-one = refl;
  longest-blocks = refl;
  longest-bytes = refl;
  pins-lent = refl;
  macros-lent = refl;
}

-- the file of a net as words, and the answer of a read of words; to unfold these is to unfold all that they rest on
unfoldable pub words : Weights → Lists → List ℕ
unfolding answer flat over word_of weight_word total running_sums plain_sum sum_of_sums sealed block head_block list_block blocks_for list_blocks
    is_load loaded stored file_words
words w net = file_words w (stored net.pins) net.macros

unfoldable pub read_words : List ℕ → ℕ → ℕ → Told Counts
unfolding answer over words_of bytes_of_word bytes_of word_of coordinate weight_word weight_in total running_sums plain_sum sum_of_sums sealed
    wrong_sums block head_block list_block blocks_for list_blocks flat places_of flat_pins is_load loaded stored file_words laid_bytes
    blocks_miscounted_within blocks_of sums_wrong head_word loaded_in pin_length number_in numbers_in stored_in pins_in macros_in
    same_numbers counts_wrong weights_miswritten head_wrong laid_out_within room_short_within read_file_within
read_words ws p q = read_file (bytes_of ws) p q

-- the answer of a read into room for the largest net
abbrev read_all : List ℕ → Told Counts
read_all ws = read_words ws pin_list_bound macro_list_bound

-- the first eight words of the block b, and its two sums
unfoldable pub shown : List ℕ → ℕ → List ℕ
shown ws b = take 8 (drop (b * block_words) ws) ++ take 2 (drop (b * block_words + summed_words) ws)

-- a block of one pin (5, 5), by its kind, number and count, and files of it
abbrev one_pin_in : ℕ → ℕ → ℕ → List ℕ
one_pin_in kind number count = block kind number count (5 ∷ (5 ∷ []))

-- the same pin in a file whose head has these two words for its weights
abbrev one_pin_with : ℕ → ℕ → List ℕ
one_pin_with first second = block 1 0 0 (1 ∷ (0 ∷ (first ∷ (second ∷ [])))) ++ one_pin_in 2 1 1

-- files of pins with loads [11]: one block of kind 4, or of each kind one
abbrev loaded_in4 : ℕ → ℕ → ℕ → List ℕ
loaded_in4 x y load = block 4 1 1 (x ∷ (y ∷ (load ∷ [])))

abbrev one_loaded : ℕ → List ℕ
one_loaded load = head_block 1 0 plain ++ loaded_in4 5 5 load

abbrev two_loads : Lists
two_loads = record { pins = loaded_pin (pos 0) (pos 0) (pos 7) ++ loaded_pin (pos 10) (pos 0) (pos 0); macros = around_one.macros }

abbrev one_and_three : Weights
one_and_three = record { across = 1; along = 3 }

pub record Table : Type 0 where
  -- the net of E3: the three blocks, and a read of them
  pub head : shown (words plain around_one) 0 ≡ 1 ∷ (0 ∷ (0 ∷ (0 ∷ (2 ∷ (1 ∷ (0 ∷ (0 ∷ (4 ∷ (491 ∷ [])))))))))
  pub pins : shown (words plain around_one) 1 ≡ 2 ∷ (1 ∷ (2 ∷ (0 ∷ (0 ∷ (0 ∷ (10 ∷ (0 ∷ (15 ∷ (1825 ∷ [])))))))))
  pub macros : shown (words plain around_one) 2 ≡ 3 ∷ (2 ∷ (1 ∷ (0 ∷ (4 ∷ (4294967294 ∷ (6 ∷ (3 ∷ (17 ∷ (2075 ∷ [])))))))))
  pub read : read_all (words plain around_one) ≡ given (counted plainly 2 1)
  -- one pin, and what is refused around it
  pub one-pin : read_all (head_block 1 0 plain ++ one_pin_in 2 1 1) ≡ given (counted plainly 1 0)
  pub room : read_words (head_block 1 0 plain ++ one_pin_in 2 1 1) (pin_list_bound - 1) macro_list_bound ≡ refused 21
  pub empty : read_all [] ≡ refused 1
  pub sum : read_all (set (head_block 1 0 plain ++ one_pin_in 2 1 1) 254 15) ≡ refused 2
  pub second-sum : read_all (set (head_block 1 0 plain ++ one_pin_in 2 1 1) 255 0) ≡ refused 2
  pub kind : read_all (head_block 1 0 plain ++ one_pin_in 3 1 1) ≡ refused 3
  pub number : read_all (head_block 1 0 plain ++ one_pin_in 2 2 1) ≡ refused 3
  pub count : read_all (head_block 1 0 plain ++ one_pin_in 2 1 2) ≡ refused 3
  pub not-zero : read_all (head_block 1 0 plain ++ block 2 1 1 (5 ∷ (5 ∷ (0 ∷ (7 ∷ []))))) ≡ refused 3
  pub too-few-blocks : read_all (head_block 1 0 plain) ≡ refused 3
  pub largest-count : read_all (head_block 4294967295 4294967295 plain ++ one_pin_in 2 1 1) ≡ refused 3
  pub no-pin : read_all (head_block 0 0 plain) ≡ refused 11
  -- the net of E3 with weights 1 and 3: its head, and a read of it
  pub weights : shown (words one_and_three around_one) 0 ≡ 1 ∷ (0 ∷ (0 ∷ (0 ∷ (2 ∷ (1 ∷ (0 ∷ (3 ∷ (7 ∷ (848 ∷ [])))))))))
  pub weights-read : read_all (words one_and_three around_one) ≡ given (counted (weighing (pos 1) (pos 3)) 2 1)
  -- the words that may stand for a weight, and those that may not
  pub no-weights : read_all (one_pin_with 0 0) ≡ given (counted plainly 1 0)
  pub first-weight : read_all (one_pin_with 8 0) ≡ given (counted (weighing (pos 8) (pos 1)) 1 0)
  pub both-weights : read_all (one_pin_with 2 8) ≡ given (counted (weighing (pos 2) (pos 8)) 1 0)
  pub written_one : read_all (one_pin_with 1 0) ≡ refused 3
  pub second-one : read_all (one_pin_with 3 1) ≡ refused 3
  pub both_one : read_all (one_pin_with 1 1) ≡ refused 3
  pub above : read_all (one_pin_with 9 0) ≡ refused 3
  pub second_above : read_all (one_pin_with 0 9) ≡ refused 3
  pub far-above : read_all (one_pin_with 4294967295 0) ≡ refused 3
  -- the net of E3 with a load of 7 on its first pin: its blocks of pins and macros, and a read of it [11]
  pub loads : shown (words plain two_loads) 1 ≡ 4 ∷ (1 ∷ (2 ∷ (0 ∷ (0 ∷ (0 ∷ (7 ∷ (10 ∷ (24 ∷ (2907 ∷ [])))))))))
  pub macros-behind : shown (words plain two_loads) 2 ≡ 3 ∷ (2 ∷ (1 ∷ (0 ∷ (4 ∷ (4294967294 ∷ (6 ∷ (3 ∷ (17 ∷ (2075 ∷ [])))))))))
  pub loads-read : read_all (words plain two_loads) ≡ given (counted plainly 2 1)
  pub one-loaded : read_all (one_loaded 1) ≡ given (counted plainly 1 0)
  -- a kind 4 file whose loads are all 0 is 3, also where a coordinate is out of range; so are blocks of both kinds, and a block of kind 4
  -- that the head counts no pin of
  pub loads-zero : read_all (one_loaded 0) ≡ refused 3
  pub zero-first : read_all (head_block 1 0 plain ++ loaded_in4 1000001 5 0) ≡ refused 3
  pub both-kinds : read_all (head_block 2 0 plain ++ (loaded_in4 5 5 1 ++ block 2 2 1 (6 ∷ (6 ∷ [])))) ≡ refused 3
  pub no-pin-loaded : read_all (head_block 0 0 plain ++ loaded_in4 5 5 1) ≡ refused 3
  -- a load out of range is 13
  pub load-above : read_all (one_loaded 1000001) ≡ refused 13
  pub load_below : read_all (one_loaded 4294967295) ≡ refused 13

pub worked-files : Table
unfolding words read_words shown
worked-files = record {
  head = refl;
  pins = refl;
  macros = refl;
  read = refl;
  one-pin = refl;
  room = refl;
  empty = refl;
  sum = refl;
  second-sum = refl;
  kind = refl;
  number = refl;
  count = refl;
  not-zero = refl;
  too-few-blocks = refl;
  largest-count = refl;
  no-pin = refl;
  weights = refl;
  weights-read = refl;
  no-weights = refl;
  first-weight = refl;
  both-weights = refl;
  written_one = refl;
  second-one = refl;
  both_one = refl;
  above = refl;
  second_above = refl;
  far-above = refl;
  loads = refl;
  macros-behind = refl;
  loads-read = refl;
  one-loaded = refl;
  loads-zero = refl;
  zero-first = refl;
  both-kinds = refl;
  no-pin-loaded = refl;
  load-above = refl;
  load_below = refl;
}
