-- Edges in a flat list of numbers, as they are handed from one step of sliding to the next and given in the end.
--
--   Edges      edges_of s e                 the first e edges of a flat list
--              laid_bound                   how many there may be for their sum to fit
pub mod Edges
