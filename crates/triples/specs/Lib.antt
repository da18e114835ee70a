-- An edge and a third point: what rules R3 and R6 ask of them, and whether they may gain enough.
--
-- Points are numbers in the table of a tree's points, as crate candidates says.
--
--   Triple     sees, dropped, allowed      what a candidate must be
--              may_gain                     more than so much can be gained, by the box of the edge
pub mod Triple
