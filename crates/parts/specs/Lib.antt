-- The table of a best tree (L16): a row for each set of all pins but the first, and for each part of a set its sums.
--
-- A set is a number, a bit a pin. The table is asked for properties and not for an equation: the program is free in the order of its
-- passes. Taking the first pin out of the sets halves it: sixteen rows of 2,304 numbers, the grid's own row, in the 65,536 that are lent.
-- That its numbers are what sets cost is crate best's.
--
--   Bounds     best_pins, mask_bound, work_bound            5 pins, 16 sets, 65,536 numbers of work
--   Numbers    number, bits_of, part_of                    masks as numbers
--   Starts     least, sums, trying                       the least sum over the parts of a number
--   Tables     value_at, row_of, RowsTo                    the rows in the lent work
--              lone_pin, Tried, Begun                     a part tried; the start of a row
--              RowPut, RowFilled                         a row put; a row filled
--              MaskRow, FilledTo                         a row that stands; all rows below a number
pub mod Bounds
pub mod Numbers
pub mod Starts
pub mod Tables
