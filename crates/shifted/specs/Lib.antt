-- A bar moved, as the code has it.
--
-- What a move is stands in crate slide, over places. Here a bar is a label of points in the tables of crate straight.
--
--   Shift      shifted m pts lab ks e      the edges after the move m: the points that have its label move
--              Movable                     places that move have coordinates of 32 bits
--
-- ../proofs/ShiftedLaws: `shifted-is`, where the label tells the bar's points, the edges after the move are those of crate slide.
pub mod Shift
