pub mod BesideLaws
pub mod HangingLaws
