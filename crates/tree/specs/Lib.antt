-- The tables of a tree, which union, refiner and refined share, and what it means that they are sound.
--
-- The points of the tree are a table in the order of places, and a point is its number there. An edge is one number, the key of its ends,
-- and the edges are a table in the order of keys, so an edge is its position. Then the order of numbers is the order of places and of
-- edges, and every tie is settled by scanning upwards and giving way only to what is strictly better.
--
--   Table      tree_bound                  how many points a tree may have, n + m = 768
--              key a b, first_end, second_end    the number of an edge, and its ends
--              set_point                    a place written as a point
--              Row, Tree                   the edges with how many they are; the points with theirs, and the edges
--              Small, Low, Within          bounds of a table's entries
--   Sum        below f n, sum_over g xs n   the sum of f over the numbers below n, of g over the first n entries of a table
--   Places     points_of, edges_of           the points and the edges of a tree as places
--              key_cost w, tree_total w        what an edge costs; the sum over the edges of a tree
--              Ranked                      edges smaller place first, in order
--              Sound net                   a tree over its points in order, with all pins of the net and every edge clear of its macros
--   Edges      edges_from, table_edges       edges of a tree's tables as pairs of places, in the order of the table
--              tree_edges t                 all edges of a tree, in order
--   Outside    strangers vs t              how many points of a tree are none of the places vs
pub mod Table
pub mod Sum
pub mod Places
pub mod Edges
pub mod Outside
