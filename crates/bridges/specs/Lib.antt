-- Bridges of a graph on tables: rules T9 to T12.
--
-- An edge whose ends have two roots is a bridge; it stands for the path from the one root over it to the other. The tables are those of
-- crate forest, and nothing here knows places.
--
--   Bridges    same_root g t k, roots_of g t k        whether edge k is no bridge, and the two pins that it joins
--              path g fars p k, path_length ..       the edges on the path that it stands for, and the sum of their lengths
--              bridges g t p                        the bridges by path length, ties by number
pub mod Bridges
