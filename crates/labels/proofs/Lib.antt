pub mod CodeLaws
pub mod LabelLaws
pub mod OwnLaws
