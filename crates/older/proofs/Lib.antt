pub mod FirstRelease
pub mod OlderLaws
pub mod WorkedOlder
