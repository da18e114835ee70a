-- A net as a file, byte for byte.
--
-- The layout is one definition, `file_bytes w pins macros`: the head's block, the blocks of the pins and those of the macros. Pins are three
-- numbers each for a caller. `stored` says how they stand in a file: as places alone where all loads are 0, as before there were any, and
-- with their loads otherwise; the whole layout is made of what it gives [11].
--
--   Layout   list_blocks, all_blocks                  some blocks of a list, and all of them
--            loaded pins, stored pins               whether a pin has a load; the pins as they are stored
--            pin_blocks s, macro_blocks               the blocks of the two lists
--            file_words w s macros, laid_bytes        the whole file of pins as they are stored
--            file_bytes w pins macros                and that of two flat lists
--   Same     same_numbers xs ys                      two lists of bytes are the same
pub mod Layout
pub mod Same
