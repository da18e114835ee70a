-- The round's choice on tables: what each step of the code works out.
--
-- A bar is the label of its points (crate labels). What it meets is turned once (crate turned); what hangs from it and how far it may move
-- are those of crates hanging and reach; whether a pin holds it, and what a unit costs, those of crate moves.
--
--   Offers     offered, searched          a bar's move offered to the best so far; all bars
--
-- ../proofs/ChoiceTables.antt: on the tables of a straight tree of a net, `searched` agrees with the choice of crate slide, and the label
-- of the best move tells the points of its bar.
pub mod Offers
