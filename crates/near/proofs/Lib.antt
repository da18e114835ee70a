pub mod BoxLaws
pub mod TableLaws
