pub mod RoomLaws
pub mod CallLaws
pub mod Distances
pub mod BestLaws
pub mod RefinedRange
pub mod SlidLaws
pub mod SlidTable
pub mod DelayLaws
