-- Floats of 64 bits: the operations that rules Y3 to Y5 name, the tests of Y7 and C38, and delays that are finite or marked.
--
--   Float      plus, times, half, whole    the operations, each rounding once;  finite: neither an infinity nor not a number
--   Mark       marked, is_mark              a delay, or the mark that it is not finite;  finites: the delays among them
--              fair, usable                a number of a technology, and both of them: finite and above zero
--              pins_from, marks_from         the pins among a table's points, and their marks
pub mod Float
pub mod Mark
