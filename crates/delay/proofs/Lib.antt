-- Loads, and what is promised of delays
pub mod LoadLaws
pub mod TimedLaws
-- The tables of pins and of loads
pub mod LoadedLaws
-- The answer
pub mod ToldLaws
-- From numbers of points to places
pub mod AnswerLaws
-- Worked nets
pub mod WorkedDelays
