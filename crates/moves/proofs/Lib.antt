pub mod MovingLaws
pub mod SeatLaws
