-- What is done to a tree: rules R12 to R16 on its tables. A new point opens a gap in the table and moves the numbers behind it on by one.
-- Definitions are state machines on whole tables, what stands past their end included, so that contracts speak of every number lent.
--
--   Exchange   closed, drop_two             edges taken out
--              opened, bump                the points with s put in where it belongs; numbers moved on
--              lay, lays, star, laid_at     edges laid, except any of length zero; those from s
--              exchange                    what a round does with its candidate
--   Prune      marks                       which points are pins
--              loose, prune                no pin and a single edge; what is left when all such points are gone
--              pruned                      a tree without such points
--
-- THE THEOREMS
--   ExchangeSound  laid-sound          a round keeps `Sound`;  laid-costs: the total falls by the gain
--   RankedLaws     laid-level          edges stay smaller place first and in order;  ranked-of: each once, since they are a tree
--   PruneSound     prune-whole         pruning keeps a tree with all pins;  pruned-over: it raises no sum
pub mod Exchange
pub mod Prune
