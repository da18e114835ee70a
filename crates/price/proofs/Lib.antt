pub mod ChargeLaws
pub mod FirstLaws
pub mod PriceLaws
pub mod LongerLaws
pub mod WorkedPrices
