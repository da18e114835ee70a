-- Which bridges are kept, and so the terminal tree of a graph on tables: rules T13 to T16.
--
-- Groups of pins are joined by one bridge after the other, in their order, unless they are one group already. That the kept bridges stand
-- for terminal paths, join the pins, and do so with the least length, is proved in ../proofs (OurTree), of any graph in tables.
--
--   Kept       kept_bridges g t p, kept_lengths       the kept ones in the order kept, and the lengths of their paths
--              terminal g n pins                    all of it, with the total
pub mod Kept
