pub mod EntryScan
pub mod InsertLaws
pub mod KeyLaws
pub mod SettledLaws
