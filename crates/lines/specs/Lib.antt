-- The grid of a net: its lines, crossings and edges (L1 to L4).
--
-- The grid has a line for each coordinate of a pin or a macro's side; neighbouring crossings are joined where the segment between them
-- meets no interior. Lines are lists of numbers in order, and neighbouring is that no line lies between: so what is shown of walks needs no
-- table. Tables have a fixed stride, room for 48 lines each way: an index is linear whatever the net.
--
--   Bounds     grid_pins, grid_macros                      16 and 16, the only literals
--              line_bound, crossing_bound, segment_bound    what follows: 48, 2,304 and 4,608
--              unreached                                 1,536,000,001, above what all edges cost together
--   Lines      coordinate axis p, sides, marks           a place's coordinate; the places whose coordinates are lines
--              lines_of axis pins ms, x_lines, y_lines      the lines in order, each once
--              Crossing, Neighbours, Beside              a place on two lines; two lines with none between
--              GridStep, UnitStep, ClearStep             neighbouring crossings that are clear; one clear unit; two clear places
--   Edges      grid_edges net                             the grid's edges as a list that computes
--   Crossings  is_crossing, crossing_number, number_by     the test, and the number of a crossing: numbers go as places do
--   Tables     line_from, InsertedLines, FewLines         lines in tables, put in; no more than there is room for
pub mod Bounds
pub mod Lines
pub mod Edges
pub mod Crossings
pub mod Tables
