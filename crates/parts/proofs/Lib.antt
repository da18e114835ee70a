pub mod Under
pub mod WorkLaws
