-- The trees of an allowed net, made in fresh tables: what is asked and what is known of them. What they are stands in `terminal` and in
-- `refiner`.
--
--   Counted      Counted n w pins macros              what the check hands on: what it counted, of an allowed net
--   Tables       begun t, worked_in t                  the tables of a terminal tree as lists, as they are lent and as they are then
--   Trees        refined_part t                        the refined tree's part of what is known of both
pub mod Counted
pub mod Tables
pub mod Trees
