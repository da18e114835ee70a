pub mod CodeLaws
pub mod HopelessLaws
pub mod CornerLaws
pub mod PassLaws
pub mod ExemptLaws
pub mod WayLaws
pub mod PointWay
pub mod MacroWay
