-- What an interior is: its points, fractions included (N8 to N14 of docs/RULES.md).
--
--   Interior   PlanePoint, SamePoint, point_of    a point with fractions
--              Interior, Box                     when it lies in an interior, in a closed box
--              Some, Common                      a point of a set; of two sets, with a given denominator
--
-- THE THEOREMS (proofs/)
--   InteriorLaws   box-meets, interiors-meet, clear-points    the tests on whole numbers are about points with fractions
pub mod Interior
