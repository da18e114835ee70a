-- What the exports leave to a caller in C: one record each, which the contracts name.
--
--   Handed   GraphHanded, PathsHanded, TreeHanded     of a graph, a terminal tree, a refined tree
--            BestHanded                               of a best tree, where which one is left to the program
--            BoundHanded                              of a lower bound
--            ListHanded, ChargeHanded                 of wires, of delays and of a file that is written; of a price
--            SquareHanded                             of distances on the grid
--            NetHanded, Read                          of a file that is read, and the four numbers that it gives through pointers
pub mod Handed
