pub mod ShiftedLaws
pub mod PlaceLaws
