-- What is asked of a bar that may move, as the code works it out on tables. A bar is the label of its points (crate labels).
--
--   Moving     opposite, weight_in         the other side; what a unit of a hanging edge costs
--              held, seats_of              whether a pin holds the bar, a pin being the number of its point
--              last_on, bar                the bar's last point, and the bar as it moves by a distance at most
pub mod Moving
