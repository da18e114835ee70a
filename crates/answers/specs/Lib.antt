-- What each operation answers to two weights `w` and two lists that a caller hands over: its refusals in their order, then what is given.
-- What the code's answers say, and what is promised of them, stands in `router`.
--
--   Room         if_room need room a                   what is given, or 21 where fewer numbers are lent than are needed
--   Graph        net_vertices, net_edges                the vertices and edges of two weights and two flat lists
--                graphed w pins macros v e            the answer of a graph into so many lent numbers
--   Terminal     paths_of, paths_total                  the kept paths, bridge and length, and their total
--                terminal_tree w pins macros r         the answer of a terminal tree into r lent numbers
--   Refined      refined_of, edges_in, total_in net      the refined tree of a net: its tables, its edges in order, the sum of their costs
--                laid_of, laid_total, metal_of           the edges, their total, and the metal to lay
--                refined_tree w pins macros r          the answer of a refined tree into r lent numbers
--   Both         both_trees w pins macros r            the same answer with the terminal tree's total
--   Slid         slid_in, slid_of, slid_total, slid_metal the slid tree of a net: its edges in order, their total, and their metal
--                slid_tree w pins macros r             the answer of a slid tree into r lent numbers
--   Wires        wires_of, wired w pins macros r       the wires, and the answer of wires into r lent numbers
--   Distances    grid_distances w pins macros r        the answer of distances on the grid into r lent numbers
--   Delay        delays_of w pins macros driver t      for each pin its delay, or the mark that it is not finite
--                pin_delays w pins macros driver t r   the answer of delays into r lent numbers
--   Price        net_price w pins macros bands         the answer of a price by a list of bands
--   Bought       sums_of w pins macros T               the cost and the metal of edges
--                checked_tree w pins macros edges      the answer of the check of a bought-in tree
--   Best         best_tree w pins macros work r T      the answer of a best tree into so much lent work and r lent numbers, if it is T
--   Bound        lower_bound w pins macros left rows n  the answer of a lower bound into so much lent work, if it is n
-- An answer of an allowed net (`graph_given` and the like) has only what comes after 11 to 18.
pub mod Room
pub mod Graph
pub mod Terminal
pub mod Refined
pub mod Both
pub mod Slid
pub mod Wires
pub mod Distances
pub mod Delay
pub mod Price
pub mod Bought
pub mod Best
pub mod Bound
