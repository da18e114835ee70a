pub mod AnswerLaws
pub mod GraphLaws
pub mod DistanceLaws
pub mod BestLaws
pub mod BoundLaws
pub mod Answered
