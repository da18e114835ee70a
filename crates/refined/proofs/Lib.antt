pub mod GivenLaws
pub mod MetalLaws
pub mod WireLaws
pub mod WorkedWires
pub mod WireSound
pub mod EdgeSound
pub mod NetGround
pub mod NetRefined
