-- The Elmore delay from a driver to each pin of a tree: rules Y1 to Y8.
--
-- How delays are worked out is crate elmore's, how they are tested and marked is crate floats'. Here are the pins' loads and what is
-- answered, over places as a buyer reads it and over the tables that the code has.
--
--   Load       load_of                      the load of the pin at a place
--   Answer     delay_of, marks_of            the delay of a point; for each pin a delay or the mark that it is not finite
--              delayed                     what is answered
--              delay_answer                 the answer for a tree of edges
--   Promise    Follows, Timed              what is promised of the delays of a tree
--   Table      Loaded, driver_in            the pins' loads and the driver among the points of a table
--              table_from                   the delays from the driver by numbers of points, as the code has them
pub mod Load
pub mod Answer
pub mod Promise
pub mod Table
