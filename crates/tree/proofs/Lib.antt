pub mod SumLaws
pub mod ListingLaws
pub mod PointLaws
pub mod EdgeLaws
pub mod OutsideLaws
pub mod LowLaws
