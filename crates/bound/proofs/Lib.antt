pub mod ArcLaws
pub mod OrderLaws
pub mod NetBound
pub mod NetArcs
pub mod FilledLaws
pub mod NetSwept
pub mod WholeBound
