-- What a vertex picks in each of its quadrants: rules G2 to G4.
--
-- What is nearest is what costs least: weights come first among the arguments, then macros. Every tie is settled by the order of places:
-- vertices are scanned in that order, and a pick gives way only to a vertex that is strictly nearer.
--
--   Pick       within q u v                     v is in the quadrant q of u
--              pick w ms q u vs                 what u picks in q among the vertices vs
--   Pass       vertex_picked s i                 the i-th of the vertices in a flat list, or none
--              is_next w q u best i v            a vertex is in the quadrant and comes before the best so far
--              nearest w ms q u best i v        the best of a pass with one vertex more
pub mod Pick
pub mod Pass
