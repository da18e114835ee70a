-- Answers, and lent space after them.
--
-- Every published operation answers in one of two ways, and says of each lent list what it then holds:
--
--   Told A             an answer: refused with the refusal's number, or given a value
--   over xs lent       xs, then what stood there
--   after t xs lent    what a lent list holds after the answer t: xs over what stood there, or all of what stood there
--   value_after f t v   what one lent value holds after the answer t: what t gives, through f, or what stood there
--   code t             the answer as one number: 0 for success, or the refusal's
--   only_if t u         the answer u, once t is given: the refusals of t come first
--   flat numbers bs    entries one after the other, each as its numbers
--   entries from w s n the first n entries of s, w numbers each
--   Width              how entries are written and read: reading and writing undo each other
--   Inserted           entries put into a sorted table at the front of lent space
pub mod Told
pub mod Over
pub mod Entries
pub mod Inserted
