pub mod LineLaws
pub mod PutLaws
pub mod TextLaws
pub mod WorkedTexts
