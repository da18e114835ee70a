pub mod CheckLaws
pub mod PassedLaws
pub mod BoundLaws
pub mod GivenLaws
pub mod CodeLaws
pub mod CheckOrder
pub mod WorkedChecks
