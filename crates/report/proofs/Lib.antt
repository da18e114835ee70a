pub mod RouteLaws
pub mod CutLaws
pub mod WorkedRoute
