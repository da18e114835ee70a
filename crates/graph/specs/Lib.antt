-- The spanning graph of a net: rules G1 to G7.
--
-- The graph is a function of the sorted vertices, of what is clear and of the weights, and of nothing else, so that the order of the lists
-- is forgotten in one place. An edge is the pair of its ends, smaller place first. What a vertex picks is said in crate picks; crates above
-- speak of a net's graph, with the net as its only argument.
--
--   Vertices   corners ms, vertices ps ms       the corners of macros; all vertices, sorted, equal places once
--   Edges      edge_of u v                       the edge of two places, smaller first
--              picks_of w ms vs u                the edges that u picks, quadrant by quadrant
--              edges w ms vs                    all edges, sorted, each once
--   Spanning   vertices_of net, spanning net     the vertices and the edges of a net's graph
--   Numbers    place_numbers, edge_numbers        a place and an edge as the numbers that are given
pub mod Vertices
pub mod Edges
pub mod Spanning
pub mod Numbers
