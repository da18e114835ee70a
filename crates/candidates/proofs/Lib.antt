pub mod CandidateLaws
pub mod NearLaws
pub mod CandidateBounds
pub mod BoundLaws
