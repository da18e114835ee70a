-- A lower bound for what any edges of the grid cost that join all pins, for every allowed net.
--
--   Arcs     spot_number, wide_number          crossings by number, with room for 384 lines along each axis
--            is_arc, edge_number, arc_number    the table of arcs: what an edge costs and one more, 0 where there is none
--   Order    faced, towards, in_their_order         the pins by x, by y, and both turned round
--            Numbered                        their numbers in a table
--   Bound    SweptPins net pins n            n is the number of a sweep over these pins along the net's grid
--            BothWays, Bound net n           the greater of two sweeps along an axis; n is the greatest of four
--
-- THE THEOREMS (proofs/)
--   NetBound   bound-holds        no edges of the grid that join all pins cost less than the bound;  refined-not-below
--              bound-any-order    one number, the same for every order of the lists
--   NetArcs    net-stands         a table filled with a net's arcs stands for its grid
--   NetSwept   net-swept          a sweep by the tables is one of the definition
pub mod Arcs
pub mod Order
pub mod Bound
