-- Places as a bar has them that moves to a side.
--
-- What a bar meets is turned once, so that the bar's line is the first number and the side to which it moves the second; both are raised
-- above zero, so that tests and distances are those of natural numbers, for one direction. Each loop is a state that goes through the
-- numbers below n.
--
--   Turned     raised, spot, face         a number, a place and a macro turned;  level_at: an edge along the bars
--              View, seen                 how a bar sees the tables: an edge or a point;  ahead_of, behind_of, long_of: an edge that hangs
--   Steps      up_to f n s                 the state s after f at each number below n;  set_up_to: a table so
--
-- ../proofs/SeenLaws.antt: what a bar sees is what crate slide says of places.
pub mod Turned
pub mod Steps
