pub mod PackedLaws
pub mod SweepLaws
pub mod TableLaws
pub mod LiftLaws
