pub mod ReadLaws
pub mod HeldLaws
