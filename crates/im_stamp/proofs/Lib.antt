mod WorkedStamps
pub mod Dates
pub mod StampFacts
pub mod StampJudged
pub mod StampLaws
pub mod StampOne
pub mod StampShapes
pub mod StampTexts
pub mod Years
