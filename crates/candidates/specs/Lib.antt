-- Candidates of a round: rules R3 to R11 on the tables of a tree.
--
-- WHICH REPRESENTATION, AND WHY. The points of the tree are a table in the order of places, and a point is its number there. An edge is one
-- number, the key of its ends, and the edges are a table in the order of keys, so an edge is its position. Then the order of numbers is the
-- order of places and of edges, every tie is settled by scanning upwards and giving way only to what is strictly better, and code and
-- definition share their tables.
-- L is that of crate longest; what a candidate must be stands in crate triples.
-- Machines take the weights first and then what they need of the net.
--
--   Candidate  middle_of                    s
--              weighed, offer, search      the best candidate so far with one more; the one that a round takes
--              found                       the same from the tables of a tree
--   Taken      Taken                       what is known of a candidate that a round takes
--   Bounded    Bounded                     what each edge can gain at most
pub mod Candidate
pub mod Taken
pub mod Bounded
