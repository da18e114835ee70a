-- The refiner: rules R3 to R18 and R23 to R27 on the tables of a tree.
--
-- WHICH REPRESENTATION, AND WHY. The points of the tree are a table in the order of places, and a point is its number there. An edge is one
-- number, the key of its ends, and the edges are a table in the order of keys, so an edge is its position. Then the order of numbers is the
-- order of places and of edges, every tie is settled by scanning upwards and giving way only to what is strictly better, and code and
-- definition share their tables. A new point opens a gap in the table and moves the numbers behind it on by one.
-- L is asked for every edge with every point. One table a round answers all: the longest edge on the way between every two points, filled
-- by hanging one point after the other on those that are reached. Definitions are state machines on whole tables, what stands past their
-- end included, so that contracts speak of every number lent.
-- The candidate that a round takes is that of crate beside.
-- Machines take the weights first and then what they need of the net; sentences and promises take the net.
--
--   Graft      grafted                     the way laid from the tree, leaf by leaf
--   Round      exchange_in, rounds_in        what a round does; at most m of them
--   Ready      Ready                       what the tables hold before each round
--   Refined    refined                     at most m rounds, then pruning
--              total w                     the sum of what the edges cost
--              Answer                      what the tables and the answer hold when a tree is refined
--   Promise    Promise                     what is promised of a refined tree
--              Tabled                      what is promised of its tables: edges in order
--   Sentences  CandidateOf                 an edge and a point are a candidate
--              LongestOn, CutAt            the longest edge on a way; L of an edge and a point
--              Gains, Takes                a candidate with its L and its gain; the candidate that a round takes
--              Numbered                    edges and points are numbered in their order
--              NoneLeft                    every point with an edge is a pin or has two
--
-- THE THEOREMS, in the order of their proof.
--   CutLaws        cut-is              `cut_of` is the longest edge, the smallest on a tie, of the way to whichever end is met first
--   RoundReady     rounds-ready        so do the rounds, each with at most one point more that is no vertex
--   RoundSound     total-of            the contract's sum is `tree_total`
--   RefinedSound   refined-promise     the refined tree of a sound tree keeps `Promise`
--                  refined-tabled      and `Tabled`, where the tree's edges are in order
--   CutSound       cut-at              in a sound tree `cut_of` is `CutAt`;  cut-one: it alone is;
--                  cut-another         it is another edge than (a, b)
--                  offer-plain         so that test turns no candidate away
--   TakesLaws      found-takes         in a sound tree `found` is the candidate that a round takes: `Takes`
--   RoundSteps     rounds-none, -some  rounds one by one;  numbered: the order of numbers is that of edges and of places
--   LeftLaws       none-loose          pruning ends with none left to go;  pruned-left: `NoneLeft` of what is left
pub mod Graft
pub mod Round
pub mod Refined
pub mod Promise
pub mod Sentences
pub mod Ready
