pub mod SideLaws
pub mod OrderLaws
pub mod Bits
