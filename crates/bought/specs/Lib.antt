-- Trees that are brought from elsewhere: whether a lent list of edges is one for a net, and what it comes to.
--
-- A list of edges is lent flat, four numbers an edge. Numbers of the net come first, then 33, 34 and 35, each over the whole list. `Passes`
-- says in the document's words which lists pass; `verdict` computes it: the points are the pins and the ends of the edges, sorted; there is
-- one edge fewer than points; each edge in its turn gives its two ends one label, and in the end there is one label. That the two say the
-- same is proved (proofs/PassLaws).
--
--   Bounds     bought_bound, point_limit         1,535 edges; the points that they and the pins can have
--   Edges      edges_of s, edge_at s i           the edges of a flat list, and the i-th
--              ends_of T                        the ends of edges, one after the other
--              points_of pins T                 pins and ends in the order of places, each once
--   Passes     Single T v, Passes net T        a point with a single edge; a list that passes, in words
--   Verdict    edges_miscounted, unfit          the tests for 33 and 34
--              one_group, is_tree, bare          the tests for 35
--              verdict net T, bought net s     34, 35 or cost and metal; 33 before them
--              told_verdict r                   what the code's answer says
--   Counted    met_by, bare_at                   the edges of each point counted by its number, and V6 by that count
--   Rearranged Rearranged T U, SameEdges s t   the same edges in another order, any of them from its other end; in flat lists
pub mod Bounds
pub mod Edges
pub mod Passes
pub mod Verdict
pub mod Counted
pub mod Rearranged
