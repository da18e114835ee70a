-- Rounds, as the code has them.
--
-- What a round is stands in crate slide, over places; the edges after a move on tables in crate shifted.
--
--   Round      saves net T                 the next round saves
--
-- ../proofs/FoundLaws: `found-edges`, where the best move found on tables is the choice of crate slide, the edges after it on tables are
-- those after the round. ../proofs/TurnLaws: `found`, it is that choice; and the loop over rounds. ../proofs/SlidLaws: from bending on.
pub mod Round
