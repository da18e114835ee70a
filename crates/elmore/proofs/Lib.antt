-- The two passes, as the code makes them
pub mod TableLaws
pub mod MemoLaws
-- The rooted tree
pub mod ChildLaws
pub mod RootedLaws
-- From numbers of points to places
pub mod CarriedLaws
pub mod PlaceLaws
