-- The check of a net: its tests in the order of C60, each over the whole net.
--
-- What each test asks, and what an allowed net is, stands in crate net; here the tests are put in order, and the code searches the lists
-- for what each asks. Definitions speak the numbers of the rules; the code answers by a `Result`, and `told` translates.
--
--   Check      checked w pins macros                     the first number that applies, or what is given
--              checked_within b ..                        the same within any bounds, of which it is an instance
--              told r                                    what the code's answer says
pub mod Check
