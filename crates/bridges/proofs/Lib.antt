pub mod PathParts
pub mod BridgeLaws
