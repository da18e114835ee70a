pub mod BendingLaws
