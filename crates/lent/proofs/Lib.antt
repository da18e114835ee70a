pub mod OverLaws
pub mod EntryTable
pub mod CarryTable
pub mod InsertedLaws
pub mod AfterLaws
