-- A tree read back from the table of crate parts (L12).
--
-- It is read back from the numbers alone, over any edge or parts by which a number is had: which tree is given, where several cost the
-- same, is left to the program, and nothing here depends on it.
--
--   Routes     in_their_order, edge_at, marked_edges              segments in the order of edges, and the marked ones
--              segment_at                                 the four segments at a crossing
--              leads, meets                              an edge, and two parts, by which a number is had
--              Down, Walked, Route, Traced, ReadBack     a tree read back, and marked
pub mod Routes
