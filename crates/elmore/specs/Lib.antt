-- A tree rooted at a driver, and capacitance and delay of its points: rules Y1 to Y6.
--
-- The tree is rooted first, with no float in sight: what hangs from a point, child by child in the order of places. Capacitance and delay
-- are then two passes over the rooted tree, each operation a named one of IEEE 754 that rounds once. Both are over any kind of points: over
-- places they are what a buyer reads, over numbers of points what the code computes, and one law carries them across.
--
--   Rooted     Branches, branch            what hangs from a point, child by child
--              neighbours, children        the points that an edge joins to a point, in the order of places; all but its parent
--              rooted es driver            the tree of the edges es, rooted at the driver
--              visited                     its points but the driver, each child after its parent
--   Elmore     edge_resistance, edge_capacitance    an edge's values: the technology's number times plain length
--              capacitance, delays         the two passes
--              delay_in                     the delay that a list has for a point
--   Table      children_from, hung          the rooted tree by numbers of points, as the code has it;  stored: delays put into a table
--   Memo       visit_number, Memo           capacitances kept, each with the number of the visit that it is for
pub mod Rooted
pub mod Elmore
pub mod Table
pub mod Memo
