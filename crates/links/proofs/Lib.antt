pub mod LinkLaws
pub mod PickTable
pub mod ReachLaws
