pub mod ArchiveAnswers
pub mod ArchiveQuery
pub mod DataForms
pub mod Readings
pub mod ResultSets
