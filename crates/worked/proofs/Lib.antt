pub mod Nets
pub mod Prices
pub mod Bought
pub mod Best
pub mod RefinedTrees
pub mod SlidTrees
pub mod WrongTrees
