pub mod SettledPoints
pub mod RoundLaws
pub mod FoundLaws
pub mod TurnLaws
pub mod SlidLaws
