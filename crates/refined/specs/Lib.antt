-- The refined tree's edges as they are given, and its wires: rules W1 to W4.
--
-- Edges are read from the refiner's tables in their order, which is the order of edges. The same edges in the theory of the refined tree
-- are a listing from the last to the first; what is promised there depends on which edges there are, and is carried over. The total is in
-- cost, as the refiner chooses; wires are metal, and measured by plain length.
--
--   Metal      metal es                    R22: the metal to lay for edges, their plain lengths added up
--   Ground     ground_of net                the net's spanning graph as the tables hold it, which its tree is refined on
--   Wires      drawn a b                   the wire from a to b, unless its length is zero
--              bend a b                    where the horizontal wire ends and the vertical one begins
--              wires_of_edge e, wires es     the wires of an edge; of edges one after the other
--   Promise    Horizontal, Vertical        along one axis
--              Leads a ws b                from a to b, each wire beginning where the one before ended
--              EdgeWires, Wired            what is promised of an edge's wires; of the wires of edges
--              Given                       what is promised of the edges and the total that are given for a refined tree
--
-- THE THEOREMS
--   MetalLaws      total-plain             the refiner's sum at weights of 1 is metal;  metal-low: never more than the cost
--   WireSound      edge-wired              the wires of every edge keep `EdgeWires`;  wired: those of edges keep `Wired`
--   EdgeSound      given-edges             the edges of a refined tree, with the refiner's total, keep `Given`
--   NetGround      union-ready             an allowed net's union is ready for its rounds;  net-grounded
--   NetRefined     union-promise           the refined tree of an allowed net's union keeps `Promise`;  union-tabled: and `Tabled`
pub mod Metal
pub mod Ground
pub mod Wires
pub mod Promise
