-- A tree's edges put into tables.
--
-- Between the steps of sliding a tree is a flat list of edges, four numbers each; `Settled` says which tables hold it.
--
--   Settled    edges_of s e                 the first e edges of a flat list
--              points_of pins U             the tree points
--              Settled pins U t            t holds these points, and the edges in order
pub mod Settled
