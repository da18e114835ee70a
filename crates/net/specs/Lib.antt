-- The net: one record for the definitions, its bounds, the tests of it, and what an allowed net is.
--
-- Code has the lists as slices of numbers, and what is no list as one struct by value that the check gives; definitions have one record
-- with places and macros. `net_of` takes the lists to the record. Definitions speak the numbers of the rules; the code speaks an enum, and
-- `number` translates. The tests stand here one by one, beside the bounds that they ask for; crate checks goes through them in their order.
--
--   Bounds     pin_bound, macro_bound, coordinate_bound     128, 128 and 1,000,000
--              Bounds, today                             the first two as one value: those of any machine, and of this one
--              load_bound, weight_bound                    1,000,000 and 8
--              pin_width, macro_width                      a pin has 3 numbers and a macro 4: with those above the only literals
--              point_bound, edge_bound, tree_bound          what follows from them: 640, 2,560 and 768
--              cost_bound                                 and 32,000,000
--   Pins       pin_count, pin_places, pin_at                a flat list's pins: how many, where, the i-th
--              pin_loads, load_at, pin_entries              their loads, and places and loads together
--              bare, flat_pins                            a pin without a load, and such pins as a flat list
--              macro_count                                how many macros a flat list holds
--   Net        Net, net_of w pins macros                  the record, and the net of two weights and two flat lists
--              weighing a b, plainly                     two weights as handed over, and those of 1
--              weights_of w, handed w                     the weights that they are, and the other way
--              cost_in net a b                            what metal between two places costs in a net
--   Answer     number f                                  the number of a refusal
--              told_by f r                               what an answer of the code says
--   Counts     counted w m k, counts_of w pins macros     what the code's check gives: m, k and the weights
--              point_count counts                         m + 4k
--   Tests      pins_miscounted .. weights_wrong            the tests, 11 to 14, 17 and 18
--   Allowed    Allowed net                               an allowed net in words, for the theory above
--   Order      SamePins, SameMacros                      the same entries in another order
--              SamePlaces                                pins at the same places, in another order and with other loads
--   WorkedNets one_pin .. four_pins                        the worked nets E1 to E11 and E19
pub mod Bounds
pub mod Pins
pub mod Net
pub mod Answer
pub mod Counts
pub mod Tests
pub mod Allowed
pub mod Order
pub mod WorkedNets
