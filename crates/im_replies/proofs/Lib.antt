pub mod AnswerLaws
pub mod SpellingSteps
pub mod StreamIds
