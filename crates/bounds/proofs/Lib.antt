pub mod NumberLaws
pub mod CarryLaws
pub mod CalmLaws
pub mod CostLaws
pub mod DroppedLaws
pub mod CarriedLaws
