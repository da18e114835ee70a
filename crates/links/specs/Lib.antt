-- Picks in a table, four a vertex, and the links that they make of two vertices: how edges are computed.
--
--   Links      PicksHeld w ms s picked n        a table has what each of n vertices picks
--              rows picked s n a m              the edges that such a table gives
--              Reached picked last n k          a table has how far the links of a vertex go
pub mod Links
