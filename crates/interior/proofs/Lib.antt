pub mod ScaleLaws
pub mod SpanLaws
pub mod InteriorLaws
