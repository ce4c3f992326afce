pub mod CheckLemmas
pub mod FaultLemmas
pub mod Numbers
pub mod WhereLemmas
pub mod Written
