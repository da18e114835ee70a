pub mod RefinedLaws
