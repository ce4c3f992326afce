pub mod Counts
pub mod Given
pub mod InMemory
pub mod Listed
pub mod Names
pub mod Prefixes
pub mod Texts
