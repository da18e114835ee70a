-- Tables in order at the front of a flat list: entries by their numbers, and an entry put in.
--
-- What insertion comes to is said in crate lent (`Inserted`), what order is in crate lists (`Ascending`), and how many places come before
-- another in crate plane (`rank`). The laws here bring the three together, for entries of any kind where that is no more work.
--
--   OneNumber   number-width, number-order            a number as an entry
--   TwoPlaces   two_numbers, two_places, two-width    two places as an entry
pub mod OneNumber
pub mod TwoPlaces
