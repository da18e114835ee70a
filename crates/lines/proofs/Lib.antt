pub mod AxisLaws
pub mod LineLaws
pub mod StepLaws
pub mod EdgeLaws
pub mod CrossingLaws
pub mod GridCost
pub mod LineTable
pub mod PinOrder
