-- How far a bar may move.
--
--   Passing    past, past_face, reached    the way past an edge, a point, a macro; how far the bar may move
--   Hopeless   hopeless, Alike, Near      a way that is not worth going on with, and what is then still known
--
-- ../proofs/WayLaws.antt, PointWay.antt, MacroWay.antt: past each thing the way is the closed form of crate slide's distance.
pub mod Passing
pub mod Hopeless
