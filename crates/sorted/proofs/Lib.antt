pub mod NumberLaws
pub mod FromLaws
