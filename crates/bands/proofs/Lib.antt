pub mod BandLaws
pub mod OrderLaws
