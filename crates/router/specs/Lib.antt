-- The contracts of the published operations, and what is promised of single answers. What is answered stands in `answers`.
--
--   Answers      told_graph r, told_tree r and so on    what the code's answer says
--   Call         Gives, GivesTwo                      what a call answers and leaves in one lent list, in two: the contracts
--                GivesSquare                          the same of a table whose numbers are fixed by what they mean
--                GivesBest                            the same of a best tree, where which one is left to the program
--                GivesBound                           the same of a lower bound, whose meaning fixes it
--   Slid         PromisedSlid w pins macros           what is promised of the slid tree of an allowed net
--   Distances    PromisedDistances w pins macros      what is promised of the table of an allowed net
--   Delay        PromisedDelay w pins macros          what is promised of the delays of an allowed net
--                SameDelays                           what two calls have in common whose lists are in other orders
--   Best         PromisedBest w pins macros           what is promised of the best tree of an allowed net, whichever is given
--   Price        NeverLess bands                      of two nets that the list prices, the one with more metal is charged no less
--   Bought       PromisedCheck w pins macros          what is promised of the check of a bought-in tree, for an allowed net
-- All that is promised of the answers, of all orders and of all sites, stands in `promises`.
pub mod Answers
pub mod Slid
pub mod Distances
pub mod Delay
pub mod Price
pub mod Bought
pub mod Best
pub mod Call
