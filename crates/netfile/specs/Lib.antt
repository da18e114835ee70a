-- The net file: what its writer and its reader answer.
--
-- Reading is defined by writing: a file gives two weights and two lists (crate decoded), and its layout is right exactly when it is the
-- file that the layout makes of these (crate encoded). That each accepted file is what the writer makes of the net read is then the
-- definition, and that reading gives back what was written is a theorem (../proofs/RoundTrip.antt).
--
--   Write    fitted needed room                     21, or the number of bytes
--            written w pins macros room             the answer of a write into so many lent bytes; written_within b within any bounds
--            told_bytes r                            what the code's answer says
--   Read     room_short p q                          refusal 21
--            laid_out bytes w pins macros            refusal 3 for anything but the head, or the answer of the check
--            answer_in bytes                         so for the weights and lists that a file holds
--            read_file bytes pin_room macro_room       the answer of a read into so many lent numbers
--            read_file_within b, answer_within b ..    the same within any bounds, of which those above are instances
pub mod Write
pub mod Read
