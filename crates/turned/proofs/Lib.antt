pub mod StepLaws
pub mod RaisedLaws
pub mod CodeLaws
pub mod SeenLaws
