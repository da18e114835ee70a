-- The terminal tree of a net: rules T9 to T16, and demand 3 of its kept paths.
--
-- Places get their numbers here and get them back: this is the one room where the graph of places meets tables of numbers. Bridges and
-- which of them are kept are worked out on tables (crates bridges and keeping); everything else says the same of places. That kept bridges
-- stand for terminal paths, join the pins, and do so with the least length, is proved there (OurTree).
-- Vertices are in order, so that the number of a vertex is how many come before it: the order of numbers is the order of places, and the
-- order of edge numbers the order of edges. Everything is a function of the vertices, the edges and the pins in order, so that the order of
-- a net's lists is forgotten before the first number is given.
--
--   Number     number_of vs p, vertex_at vs i         the number of a vertex; the vertex of a number
--              edge_at es k                          the edge of a number
--              numbered w vs es                     the graph by numbers, in the router's tables
--              pin_numbers vs ps                     the pins by numbers, in order
--   Tree       tree_of net                          the terminal tree of a net, by numbers
--              bridges_of, lengths_of, total_of        its kept bridges as edges, the lengths of their paths, their sum
--              paths_of net, path_numbers            bridge and length of each kept path; the five numbers that are given for it
--              root_of net v, roots_of net b         the root of a vertex; the two pins that a bridge's path joins
--   Roots      far_of net v, parent_of net v         how far a vertex is from its root; its parent
--              NearestRoot net v                   the root is the nearest pin, the smallest on a tie
--              Through, SmallestParent net v       the parent is the smallest neighbour on a shortest way to the root
--              WayUp net v qs                      qs are the places after v on its way to its root
--              HomeWay net v                       such a way, loop-free to the root
--   Stands     KeptPath, kept_ends net k            a kept path, bridge and length; the two pins that it joins
--              PathOf net                          a terminal path of the net's graph
--              Stands net b l                      the bridge b stands for a terminal path of length l
--   KeptBridges taken_before j k                      by path length, ties by the order of edges
--              KeptBridges net                     the bridges in this order, and the given paths are those that are kept of them
--   Tables     tables .., Fresh                     the tables that are lent for it, and what is asked of them
--              Worked net lent t r                 what they hold once the tree is worked out
--              paths_in es kept long n               the kept paths as the tables have them
--              Givable                              what is asked to give them
pub mod Number
pub mod Tree
pub mod Roots
pub mod Stands
pub mod KeptBridges
pub mod Tables
