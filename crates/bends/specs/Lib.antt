-- Slanted edges bent, as the code has it.
--
-- What bending is stands in crate slide; `BentBy` says how the code's answer tells what `bends` gives.
--
--   Bending    corner_of X e                where an edge bends
--              BentAt, BentWhere           what the code does with a slanted edge
--              BentBy b r out              the code's answer r, and its edges, are b
pub mod Bending
