-- The true distance of a net's pins on its grid (L4 to L8), whose lines, crossings and edges are crate lines'.
--
-- The table that is given has the cheapest cost along these edges between each two pins. That it is true is a theorem: no walk in unit
-- steps, each clear of the interiors, is cheaper, on the die or off it, and one costs just that.
--
-- A walk is a list of places whose steps stand in any relation; unit steps, steps along the grid and clear edges share its laws.
-- The program's rows are asked for properties and not for an equation with a machine: a row is not above its start, each number is its
-- start or no less than over an edge (`Held`), and no edge lowers it any more (`Quiet`). Whatever order the edges are taken in, that fixes
-- the numbers. A row has a number for each of 2,304 crossings.
--
--   Walk       Walk R x ps y, Within, Exactly            from x through ps to y, each step in R; of at most a cost, and of just a cost
--   Rows       lowered, Held, Quiet                      one number lowered; what became of a row; nothing is left to lower
--   Nearest    Nearest G d cap p t                       a settled table of distances to p
--   Tables     target, is_segment, edge_cost, CostsTo      segments by number, and what they cost: 0 where there is no edge
--              crossing_by                                 the place of a crossing, for any number of lines
--              Row, Starts, Fits, Near                   what the program asks of its tables
--              Lowered, Onward, Backward, Passed          one edge asked; the edges of a pass on or back, and what it comes to
--              Settled, RowPut, RowsOver                 a number of a settled row; rows in a lent list
--   Distance   GridDistance net p q n                    n is the cheapest cost along the grid
--              TrueDistance net p q n                    n is the cheapest cost of walks in clear unit steps
--              pins_in_order, entry_at, Square              the pins in the order of places, and the square table
--              SquareOver net lent lent'                 such a table at the front of a lent list
--              TrueSquare net numbers                    what is promised of it
pub mod Walk
pub mod Rows
pub mod Nearest
pub mod Tables
pub mod Distance
