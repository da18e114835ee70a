-- What hangs from a bar.
--
--   Hanging    hang                       how many edges hang on either side, and the shortest ahead
--              Tallied                    a table of that, by label, one number a bar
--
-- ../proofs/HangLaws.antt: what is counted is what hangs as crate slide has it.
pub mod Hanging
