-- All that is promised of the published operations, over the definitions that their contracts name (`answers`). There is no code here.
--
--   Published      Promised w pins macros           what is promised of the graph, terminal tree, refined tree and wires of an allowed net
--   EveryOrder     SameForBoth, ByPlaces            the same for every order of the lists, and whatever the loads
--   EverySite      SameOnSite, OnEverySite          the same net on every site
--   FirstRelease   AsFirst                          weights 1 and 1: what the first release promised
--   LowerBound     PromisedBound                    what is promised of the lower bound
--
-- THE THEOREMS (proofs/)
--   Published      promised                         the check is the only premise
--   EveryOrder     every-order, loads-alone, whatever-loads;  DelayOrder: delay-order
--   EverySite      every-site, on-every-site
--   FirstRelease   as-first
--   PriceLaws      never-less;  BoughtLaws: promised-check;  BestPromise: promised-best;  BoundPromise: promised-bound
pub mod Published
pub mod EveryOrder
pub mod EverySite
pub mod FirstRelease
pub mod LowerBound
