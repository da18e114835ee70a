-- A bureau's list of bands, and the tests of it.
--
-- A list of bands is lent flat, two numbers a band: a limit and a rate, in hundredths of the currency per 1,000 units of metal. Limits are
-- only ever compared, with the metal and with each other.
--
--   Band       bands_of s, band_at s i           the bands of a flat list, and the i-th
--   Tests      bands_miscounted, rate_above      the tests for 31
--   Order      Rising, NeverFalling, WellKept  what keeping a list in order means: limits rise strictly, rates never fall
--              steps_back b c, falls_back bs     the same as a test, of two neighbours and of a list
pub mod Band
pub mod Tests
pub mod Order
