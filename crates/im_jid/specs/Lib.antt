pub mod Answers
pub mod Cuts
pub mod Forms
pub mod Indexed
pub mod Normal
pub mod Plain
pub mod Spellings
