pub mod LongestLaws
pub mod FoundLaws
pub mod ReadingLaws
pub mod WinsLaws
pub mod HungLaws
pub mod RowLaws
pub mod PairLaws
pub mod NoLonger
