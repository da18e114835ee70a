-- What the operations must be lent.
--
--   Needs        vertex_need n, link_need n             numbers for a graph's vertices and for its edges
--                path_need m                           for a terminal tree's paths
--                edge_need n m                         for a refined tree's edges
--                wire_need n m                         for its wires, or for a slid tree's edges
pub mod Needs
