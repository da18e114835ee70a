-- One solution
pub mod EdgeLaws
pub mod SpanningOnly
pub mod TerminalOnly
pub mod BesideOnly
pub mod RoundOnly
pub mod ReachOurs
pub mod PrunesOnly
-- Moved, and in every order
pub mod TreesMoved
pub mod RefinedMoved
pub mod TreesOrder
-- Ours
pub mod SpanningOurs
pub mod TerminalOurs
pub mod BestLaws
pub mod GainOurs
pub mod GainBeside
pub mod RoundOurs
pub mod RoundEdges
pub mod PrunesOurs
pub mod RefinesOurs
pub mod RefinesTree
pub mod RefinesFall
pub mod StartOurs
pub mod ChartsOurs
pub mod RefinedOurs
pub mod TreesOurs
