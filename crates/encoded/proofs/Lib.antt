pub mod LayoutLaws
pub mod StoredLaws
pub mod SameLaws
