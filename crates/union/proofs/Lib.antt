pub mod ListedLaws
pub mod MarkLaws
pub mod StartLaws
pub mod UnionTree
pub mod WorkedUnions
pub mod PlacedLaws
pub mod UnionSound
pub mod WorkedStart
