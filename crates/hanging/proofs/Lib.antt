pub mod CodeLaws
pub mod HangLaws
pub mod TallyLaws
