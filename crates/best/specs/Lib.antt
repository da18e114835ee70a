-- The best tree of a net of up to five pins (L9 to L16).
--
-- No edges of the grid that join all pins cost less than those given. A table says so: T(S, v) is what it costs to join the place v with a
-- set S of pins, for all sets of all pins but the first. At a lone pin it is nothing; over an edge it is no more than the edge costs more;
-- and it is no more than the sum over two parts of S. Whatever table keeps these three is a lower bound (proofs/LowerBound): an edge at v
-- is taken out of any edges that join v with S; then each pin is joined with v still, or with the edge's other end.
--
-- A set is of any type that has a list of pins, so the bound never looks inside; masks are lists of tests, and numbers by halving for the
-- program. The table stands in crate parts, what is read back from it in crate traced. That it is one tree, that no edge is there twice and
-- that no loose end is left follows from its being cheapest (proofs/CheapestTree).
--
--   Sets       Edges G F, Reaches F v pins               each pair of F is an edge of G; F joins v with each pin
--              JoinsAt F S v n                           F joins v with the pins of S at cost n
--              Closed, Split                             what is asked of a table for the lower bound
--   Masks      chosen, Mask, Halves, Lone                sets of pins as tests, two that share no pin, a set that is one pin
--              Start, Filled                             what a row starts with; the table at the end
--   Tree       JoinsPins, IsBest, BestTree               edges that join all pins; a best tree; as it is given
--              BestOver net lent lent' edges total metal  such a tree at the front of a lent list
--
-- THE THEOREMS
--   BestTree      cheapest-best          edges that join all pins, none cheaper, are a best tree;  best-alike: all best trees cost the same
--   RefinedLaws   best-least             a best tree is the cheapest of all metal;  one-tree-not-cheaper: no tree of clear edges costs less
--                 refined-not-cheaper    so the refined tree of an allowed net does not
--   OrderLaws     best-any-order         the cost is the same for every order of the lists
--   BestLaws      best-pinned            a point with a single edge is a pin, as a bought-in tree asks
pub mod Sets
pub mod Masks
pub mod Tree
