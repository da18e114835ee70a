pub mod KeptLaws
pub mod WholeLaws
pub mod OurTree
pub mod WorkedTrees
