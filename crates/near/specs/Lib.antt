-- What is near the box of an edge, so that points too far from it are not tried.
--
-- The box is a macro, the struct with four sides, though nothing is built there. The code finds what is far across by halving a table in
-- the order of places, and says no more of it than that metal from there to the box costs a limit.
--
--   Box   box_of a b                 the box of two places by its sides
--         outside l h z             how far z lies outside a span
--         box_cost w m u             what metal from u to a box costs
--         FarLeft, FarRight         so far to a side that metal across alone costs a limit, from there and from all places beyond
pub mod Box
