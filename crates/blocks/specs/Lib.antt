-- The blocks of a net file: what a block holds, word for word, and how many a file has.
--
-- A file is a list of bytes, a byte is a natural below 256, a word one below 2^32. A block is 128 words, low byte first: what it is, up to
-- 120 numbers, zeros, and two sums. The format's own numbers stand in Sizes, each once; the longest file and what a read asks to be lent
-- follow there from them and from the net's bounds. Pins and macros are flat lists of numbers, and a block holds 120 of them, 60 pins of
-- two numbers, 40 of three or 30 macros; so one definition of a block of entries, with the kind and the numbers of an entry as arguments,
-- serves all kinds. The head has how many there are and the two weights, of which 1 is written as 0: so a net with both weights 1 has the
-- file that it had before there were any (crate older, FirstRelease).
--
--   Sizes    block_words, block_bytes, summed_words    a block's words, its bytes, its words before the sums
--            second_sum, first_entry, per_block        where the second sum stands and entries begin; the numbers of a full block
--            pin_count_word, macro_count_word           where the head has m and k
--            first_weight_word, second_weight_word      and its two weights
--            head_kind, pin_kind, macro_kind           the kinds of blocks
--            loaded_kind, place_width                 that of pins with loads; the numbers of a pin that is stored without
--            loaded_per_block, file_pins               the entries of its full block; the numbers of the most pins of a file
--            pins_per_block, macros_per_block           the entries of a full block
--            pin_list_bound, macro_list_bound           the numbers of the longest lists
--            blocks_for n, block_count n k            how many blocks n numbers take, and a file of n and k
--            file_blocks, file_bound, file_numbers     the longest file: its blocks, its bytes, the numbers that it has room for
--            file_blocks_within b                     its blocks for a machine of other bounds
--   Words    words_of bytes, bytes_of words           words from bytes and back, low byte first
--            word_of z, coordinate w                 a coordinate's two's complement word, and the coordinate of a word
--            weight_word n, weight_in w               a weight's word, and the weight of a word
--   Sums     plain_sum ws, sum_of_sums ws              the two sums modulo 2^32
--            sealed ws, wrong_sums block             words with their sums behind them; a block whose sums are wrong
--   Block    block kind number count entries        one block
--            head_block m k w, list_block             the head, and a block of entries
--            block_of b words                        the block b of a file's words
--   Kind     kind_word k, kind_width k                the kinds of blocks of entries as the code has them: their numbers, those of an entry
pub mod Sizes
pub mod Words
pub mod Sums
pub mod Block
pub mod Kind
