pub mod QuadrantLaws
pub mod PickLaws
pub mod VertexNumbers
pub mod PassLaws
