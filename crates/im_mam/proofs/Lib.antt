pub mod ArchiveQueryLaws
pub mod FinLaws
mod QueryReads
pub mod ResultLaws
mod WorkedArchives
