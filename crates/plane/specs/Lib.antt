-- The plane: places, macros, and what is clear.
--
-- A place and a macro are the code's own structs, so that code and definition share one type; their coordinates are whole numbers.
-- Every definition is a test or a number that computes. Lengths are naturals: a distance is never negative. What is chosen above is
-- chosen by cost, which the weights decide; what is measured as metal is distance.
--
--   Place      place x y           before a b, same_place a b     the order of places, and equality as a test
--   Distance   apart a b           distance a b                  how far two numbers and two places lie apart
--   Cost       cost w a b          plain, Positive w             what metal between two places costs; weights of 1, and of 1 at least
--              cost_limit                                         2^41, above every cost of 32-bit places
--   Middle     middle a b c        middle_place a b u             the middle of three numbers, and of three places by axis
--   Box        InBox s a b                                       s in the closed upright box of a and b
--   Macro      macro l b r t       inside p m                    a place in a macro's interior
--              meets a b m         interiors_meet m n             a closed box, or another interior, meets a macro's interior
--              clear a b ms                                      the box of two places meets no interior of ms
--   Flat       places_of, macros_of  place_at, macro_at              the entries that a flat list holds, all of them and the i-th
--              place_numbers p                                    a place as its two numbers
--              flat_places                                        places as a flat list
--   Rank       InOrder s n         rank s n p                    the first n places of a flat list are in order; how many come before p
pub mod Place
pub mod Distance
pub mod Cost
pub mod Middle
pub mod Macro
pub mod Box
pub mod Flat
pub mod Rank
