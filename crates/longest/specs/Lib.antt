-- The longest edge between every two points of a tree: rules R7 and R8 on its tables, and what edges cost.
--
-- A point is its number in the tree's table of points, an edge its position in the table of keys.
-- L is asked for every edge with every point. One table a round says it: the longest edge on the way between every two points, filled by
-- hanging one point after the other on those that are reached. The code has no such table. It keeps what hangs on what, and of each edge a
-- row, filled in where it is asked; that these say what the table says is proved.
--
--   Longest    edge_cost w, costs w         what an edge costs; all of them
--              wins, longer, shorter       the longer edge, by cost, the smaller on a tie
--              longest                     the table of the longest edge between every two points
--              cut_of                       L for an edge and a point
--   Hung       Tied, Hung, Woven           what hangs on what, and that the table is that of these rows
--              Begun, Row, Climbed         the row of an edge
--              Hanging, Spanned            the rows of a tree; what they are filled for
pub mod Longest
pub mod Hung
