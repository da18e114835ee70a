pub mod CountedLaws
pub mod FreshTables
