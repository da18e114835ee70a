pub mod WriteLaws
pub mod AnswerLaws
pub mod WeightLaws
pub mod CutLaws
pub mod FileLaws
pub mod RoundTrip
pub mod WorkedFiles
