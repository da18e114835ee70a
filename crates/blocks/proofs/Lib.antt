pub mod SizeLaws
pub mod WordLaws
pub mod SumLaws
pub mod BlockLaws
pub mod BytesLaws
pub mod FillLaws
